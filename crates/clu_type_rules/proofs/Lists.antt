-- Lists: items at places, what a list has, and items that are added unless they are there.
use Rattle.std.proofs.Common.{◌≡◌, ◌⊎◌, inl, inr, ℕ, ◌+◌, ◌<◌, ◌≤◌, Bool, true, false, List, [], ◌∷◌, ◌++◌, Contains, length, map, flat_map, slice_get, if◌then◌else◌, Option, Some, refl, sym, ap, ◌∙◌, subst, append_assoc, length-append, arith, ltb, ltb-true, ltb-false}
use Rattle.std.specs.List.{list_any}
use Rattle.std.proofs.lemmas.List.{append-nil}
use Rattle.std.proofs.lemmas.List.Elements.{Contains-append_left, Contains-append_right}
use Rattle.std.proofs.lemmas.Option.{slice_get_within}
use Rattle.indexmap.specs.IndexSet.{insert_key}
use Rattle.indexmap.proofs.CallerLemmas.{Contains-insert_key}
use Rattle.clu_base.proofs.Lists.{front_of, at_seam, head_or_tail, in_head, in_tail, in_none}
use Rattle.clu_type_rules.specs.Closed.{IsFrontOf, HasAdded}

-- ---- items

pub one_longer : {X : Type 0} (xs ys : List X) (x : X) (n : ℕ) → length xs ≡ n → ys ≡ xs ++ x ∷ [] → length ys ≡ n + 1
one_longer {X} xs ys x n size is = omega (arith, size, ap (λ (l : List X). length l) is, length-append xs (x ∷ []))

-- ---- what is mapped

pub in_mapped : {X Y : Type 0} (f : X → Y) (xs : List X) (x : X) → Contains xs x → Contains (map f xs) (f x)
in_mapped f [] x h = in_none x h
in_mapped f (y ∷ xs) x h = by (head_or_tail y xs x h) (in_mapped f xs x)
  where
    by : (y ≡ x) ⊎ Contains xs x → (Contains xs x → Contains (map f xs) (f x)) → Contains (map f (y ∷ xs)) (f x)
    by (inl is) later = in_head (f y) (map f xs) (f x) (ap f is)
    by (inr there) later = in_tail (f y) (map f xs) (f x) (later there)

pub from_mapped : {X Y : Type 0} (f : X → Y) (xs : List X) (y : Y) → Contains (map f xs) y → (x : X) × Contains xs x × (f x ≡ y)
from_mapped f [] y h = in_none y h
from_mapped {X} f (x ∷ xs) y h = by (head_or_tail (f x) (map f xs) y h) (from_mapped f xs y)
  where
    by : (f x ≡ y) ⊎ Contains (map f xs) y → (Contains (map f xs) y → (z : X) × Contains xs z × (f z ≡ y)) → (z : X) × Contains (x ∷ xs) z × (f z ≡ y)
    by (inl is) later = (x, in_head x xs x refl, is)
    by (inr there) later = let r = later there in (r.0, in_tail x xs r.0 r.1, r.2)

pub in_flat : {X Y : Type 0} (f : X → List Y) (xs : List X) (x : X) (y : Y) → Contains xs x → Contains (f x) y → Contains (flat_map f xs) y
in_flat f [] x y h k = in_none x h
in_flat {X} {Y} f (z ∷ xs) x y h k = by (head_or_tail z xs x h) (λ there. in_flat f xs x y there k)
  where
    by : (z ≡ x) ⊎ Contains xs x → (Contains xs x → Contains (flat_map f xs) y) → Contains (f z ++ flat_map f xs) y
    by (inl is) later = Contains-append_left (f z) (flat_map f xs) y (subst (λ (u : X). Contains (f u) y) (sym is) k)
    by (inr there) later = Contains-append_right (f z) (flat_map f xs) y (later there)

-- ---- those of a kind

module _ {X : Type 0} (is_of : X → Bool) where
  abbrev pub those_of : List X → List X
  those_of [] = []
  those_of (x ∷ xs) = if is_of x then x ∷ those_of xs else those_of xs

  pub to_those : (xs : List X) (m : X) → Contains xs m → is_of m ≡ true → Contains (those_of xs) m
  to_those [] m h its = in_none m h
  to_those (x ∷ xs) m h its = by (head_or_tail x xs m h) (λ there. to_those xs m there its)
    where
      this : x ≡ m → Contains (if is_of x then x ∷ those_of xs else those_of xs) m
      this is = subst (λ (b : Bool). Contains (if b then x ∷ those_of xs else those_of xs) m) (sym (ap is_of is ∙ its)) (in_head x (those_of xs) m is)

      later : (b : Bool) → Contains (those_of xs) m → Contains (if b then x ∷ those_of xs else those_of xs) m
      later true there = in_tail x (those_of xs) m there
      later false there = there

      by : (x ≡ m) ⊎ Contains xs m → (Contains xs m → Contains (those_of xs) m) → Contains (if is_of x then x ∷ those_of xs else those_of xs) m
      by (inl is) rest = this is
      by (inr there) rest = later (is_of x) (rest there)

  pub from_those : (xs : List X) (m : X) → Contains (those_of xs) m → Contains xs m × (is_of m ≡ true)
  from_those [] m h = in_none m h
  from_those (x ∷ xs) m h = by (is_of x) refl (from_those xs m) h
    where
      first : is_of x ≡ true → (Contains (those_of xs) m → Contains xs m × (is_of m ≡ true)) → (x ≡ m) ⊎ Contains (those_of xs) m → Contains (x ∷ xs) m × (is_of m ≡ true)
      first e rest (inl is) = (in_head x xs m is, sym (ap is_of is) ∙ e)
      first e rest (inr there) = (let r = rest there in (in_tail x xs m r.0, r.1))

      by : (b : Bool) → is_of x ≡ b → (Contains (those_of xs) m → Contains xs m × (is_of m ≡ true)) → Contains (if b then x ∷ those_of xs else those_of xs) m → Contains (x ∷ xs) m × (is_of m ≡ true)
      by true e rest there = first e rest (head_or_tail x (those_of xs) m there)
      by false e rest there = (let r = rest there in (in_tail x xs m r.0, r.1))

-- ---- one more

pub kept_in : {A : Type 0} (front whole : List A) → IsFrontOf front whole → (a : A) → Contains front a → Contains whole a
kept_in {A} front whole f a h = subst (λ (l : List A). Contains l a) (sym f.1) (Contains-append_left front f.0 a h)

pub at_front : {A : Type 0} (front whole : List A) → IsFrontOf front whole → (k : ℕ) (a : A) → k < length front → slice_get whole k ≡ Some a → slice_get front k ≡ Some a
at_front {A} front whole f k a lt e = front_of front f.0 k a lt (sym (ap (λ (l : List A). slice_get l k) f.1) ∙ e)

pub front_on : {A : Type 0} (a b c : List A) → IsFrontOf a b → IsFrontOf b c → IsFrontOf a c
front_on {A} a b c f g = (f.0 ++ g.0, g.1 ∙ ap (λ (l : List A). l ++ g.0) f.1 ∙ append_assoc a f.0 g.0)

pub front_self : {A : Type 0} (a : List A) → IsFrontOf a a
front_self a = ([], sym (append-nil a))

module _ {A : Type 0} (eq : A → A → Bool) (xs : List A) (x : A) where
  pub one_front : IsFrontOf xs (insert_key eq xs x)
  one_front = by (list_any (eq x) xs) refl
    where
      by : (b : Bool) → list_any (eq x) xs ≡ b → IsFrontOf xs (insert_key eq xs x)
      by true e = ([], rw e (sym (append-nil xs)))
      by false e = (x ∷ [], rw e refl)

  -- what comes after the others is this one
  pub one_from : (j : ℕ) (m : A) → length xs ≤ j → slice_get (insert_key eq xs x) j ≡ Some m → x ≡ m
  one_from j m le = by (list_any (eq x) xs) refl
    where
      by : (b : Bool) → list_any (eq x) xs ≡ b → slice_get (insert_key eq xs x) j ≡ Some m → x ≡ m
      by true e = rw e (λ at. absurd (omega (arith, slice_get_within xs j m at)))
      by false e = rw e (λ at. at_seam xs x m j le at)

  pub one_here : ((a b : A) → eq a b ≡ true → a ≡ b) → Contains (insert_key eq xs x) x
  one_here equal = Contains-insert_key eq equal xs x

-- ---- more of them, one after the other

pub added_none : {A : Type 0} (old : List A) → HasAdded old [] old
added_none old = record {
  front = front_self old;
  here = λ a h. in_none a h;
  from = λ k a le e. absurd (omega (arith, slice_get_within old k a e));
}

pub added_one : {A : Type 0} (eq : A → A → Bool) → ((a b : A) → eq a b ≡ true → a ≡ b) → (old : List A) (x : A) (more new : List A) → HasAdded (insert_key eq old x) more new → HasAdded old (x ∷ more) new
added_one {A} eq equal old x more new h = record {
  front = front_on old next new (one_front eq old x) h.front;
  here = λ a there. here a (head_or_tail x more a there);
  from = λ k a le e. from k a le e (ltb k (length next)) refl;
}
  where
    next : List A
    next = insert_key eq old x

    here : (a : A) → (x ≡ a) ⊎ Contains more a → Contains new a
    here a (inl is) = subst (λ (m : A). Contains new m) is (kept_in next new h.front x (one_here eq old x equal))
    here a (inr there) = h.here a there

    from : (k : ℕ) (a : A) → length old ≤ k → slice_get new k ≡ Some a → (b : Bool) → ltb k (length next) ≡ b → Contains (x ∷ more) a
    from k a le e true lt = in_head x more a (one_from eq old x k a le (at_front next new h.front k a (omega (arith, ltb-true)) e))
    from k a le e false lt = in_tail x more a (h.from k a (omega (arith, ltb-false)) e)
