-- Lists with the same items: what is made of them in the same way has the same items.
use Rattle.std.proofs.Common.{◌≡◌, ◌⊎◌, inl, inr, ◌∙◌, ℕ, zero, suc, ◌<◌, Bool, true, false, cond, ◌&&◌, ◌||◌, List, [], ◌∷◌, ◌++◌, length, map, filter, flat_map, get_or, Contains, Decides, IsPermutation, refl, sym, ap, subst, arith, append_assoc, true≢false}
use Rattle.std.specs.List.{list_all, list_any}
use Rattle.std.specs.List.Retain.{IsFiltered, DiffersFromLast}
use Rattle.std.specs.Cmp.{IsEquivalence}
use Rattle.std.proofs.lemmas.List.Filters.{dedup_is}
use Rattle.std.proofs.lemmas.List.Kept.{Contains-dedup, Contains-from_dedup}
use Rattle.std.proofs.lemmas.List.Sorted.{Contains-permutation, IsPermutation-sym}
use Rattle.clu_base.proofs.Bools.{same_truth}
use Rattle.clu_typing.specs.Sets.{Has, HaveSame}

module _ {A : Type 0} where
  -- ---- `Contains` of std

  contained : (xs : List A) (x : A) (k : ℕ) → k < length xs → get_or xs k x ≡ x → Has xs x
  contained [] x k lt e = absurd (omega (arith, lt))
  contained (y ∷ ys) x zero lt e = inl e
  contained (y ∷ ys) x (suc k) lt e = inr (contained ys x k (omega (arith, lt)) e)

  pub from_contains : (xs : List A) (x : A) → Contains xs x → Has xs x
  from_contains xs x h = contained xs x h.0 h.1 h.2

  pub to_contains : (xs : List A) (x : A) → Has xs x → Contains xs x
  to_contains [] x h = absurd h
  to_contains (y ∷ ys) x h = by h (to_contains ys x)
    where
      by : (y ≡ x) ⊎ Has ys x → (Has ys x → Contains ys x) → Contains (y ∷ ys) x
      by (inl e) rest = (0, omega arith, e)
      by (inr h) rest = let c = rest h in (suc c.0, omega (arith, c.1), c.2)

  -- ---- the same

  pub same_refl : (xs : List A) → HaveSame xs xs
  same_refl xs = record { first = λ x h. h; second = λ x h. h }

  pub same_sym : (xs ys : List A) → HaveSame xs ys → HaveSame ys xs
  same_sym xs ys s = record { first = s.second; second = s.first }

  pub same_trans : (xs ys zs : List A) → HaveSame xs ys → HaveSame ys zs → HaveSame xs zs
  same_trans xs ys zs s t = record { first = λ x h. t.first x (s.first x h); second = λ x h. s.second x (t.second x h) }

  pub same_from : (xs ys : List A) → xs ≡ ys → HaveSame xs ys
  same_from xs ys e = subst (HaveSame xs) e (same_refl xs)

  pub same_permutation : (xs ys : List A) → IsPermutation xs ys → HaveSame xs ys
  same_permutation xs ys p = record {
    first = λ x h. from_contains ys x (Contains-permutation xs ys x p (to_contains xs x h));
    second = λ x h. from_contains xs x (Contains-permutation ys xs x (IsPermutation-sym xs ys p) (to_contains ys x h));
  }

  equal_laws : (E : A → A → Bool) → ((x y : A) → Decides (E x y) (x ≡ y)) → IsEquivalence E
  equal_laws E same = record {
    refl = λ x. (same x x).1 refl;
    symm = λ x y. same_truth (E x y) (E y x) (λ e. (same y x).1 (sym ((same x y).0 e))) (λ e. (same x y).1 (sym ((same y x).0 e)));
    congr = λ x y z e. ap (λ (w : A). E w z) ((same x y).0 e);
  }

  -- each once, by a test of equality
  pub same_dedup : (E : A → A → Bool) → ((x y : A) → Decides (E x y) (x ≡ y)) → (xs ys : List A) → IsFiltered (DiffersFromLast E) [] xs ys → HaveSame ys xs
  same_dedup E same xs ys f =
      let is = dedup_is E xs ys f in
      record {
        first = λ x h. from_contains xs x (Contains-from_dedup E xs x (subst (λ l. Contains l x) is (to_contains ys x h)));
        second = λ x h. from_contains ys x (subst (λ l. Contains l x) (sym is) (Contains-dedup (equal_laws E same) (λ x y. (same x y).0) xs x (to_contains xs x h)));
      }

  -- ---- one list behind another

  pub has_left : (xs ys : List A) (x : A) → Has xs x → Has (xs ++ ys) x
  has_left [] ys x h = absurd h
  has_left (z ∷ xs) ys x h = by h (has_left xs ys x)
    where
      by : (z ≡ x) ⊎ Has xs x → (Has xs x → Has (xs ++ ys) x) → Has (z ∷ (xs ++ ys)) x
      by (inl e) rest = inl e
      by (inr h) rest = inr (rest h)

  pub has_right : (xs ys : List A) (x : A) → Has ys x → Has (xs ++ ys) x
  has_right [] ys x h = h
  has_right (z ∷ xs) ys x h = inr (has_right xs ys x h)

  pub has_either : (xs ys : List A) (x : A) → Has (xs ++ ys) x → Has xs x ⊎ Has ys x
  has_either [] ys x h = inr h
  has_either (z ∷ xs) ys x h = by h (has_either xs ys x)
    where
      by : (z ≡ x) ⊎ Has (xs ++ ys) x → (Has (xs ++ ys) x → Has xs x ⊎ Has ys x) → Has (z ∷ xs) x ⊎ Has ys x
      by (inl e) rest = inl (inl e)
      by (inr h) rest = elim (rest h) [ inl a ↦ inl (inr a) | inr b ↦ inr b ]

  pub same_joined : (xs ys us vs : List A) → HaveSame xs us → HaveSame ys vs → HaveSame (xs ++ ys) (us ++ vs)
  same_joined xs ys us vs s t = record {
    first = λ x h. elim (has_either xs ys x h) [ inl a ↦ has_left us vs x (s.first x a) | inr b ↦ has_right us vs x (t.first x b) ];
    second = λ x h. elim (has_either us vs x h) [ inl a ↦ has_left xs ys x (s.second x a) | inr b ↦ has_right xs ys x (t.second x b) ];
  }

  pub same_turned : (xs ys : List A) → HaveSame (xs ++ ys) (ys ++ xs)
  same_turned xs ys = record { first = turned xs ys; second = turned ys xs }
    where
      turned : (xs ys : List A) (x : A) → Has (xs ++ ys) x → Has (ys ++ xs) x
      turned xs ys x h = elim (has_either xs ys x h) [ inl a ↦ has_right ys xs x a | inr b ↦ has_left ys xs x b ]

  -- ---- a filter

  pub kept : (p : A → Bool) (xs : List A) (x : A) → Has xs x → p x ≡ true → Has (filter p xs) x
  kept p [] x h is = h
  kept p (y ∷ ys) x h is = by (p y) refl h (kept p ys x)
    where
      by : (b : Bool) → p y ≡ b → (y ≡ x) ⊎ Has ys x → (Has ys x → p x ≡ true → Has (filter p ys) x) → Has (cond b (y ∷ filter p ys) (filter p ys)) x
      by true e (inl same) rest = inl same
      by true e (inr h) rest = inr (rest h is)
      by false e (inl same) rest = absurd (true≢false (sym is ∙ ap p (sym same) ∙ e))
      by false e (inr h) rest = rest h is

  pub from_kept : (p : A → Bool) (xs : List A) (x : A) → Has (filter p xs) x → Has xs x × (p x ≡ true)
  from_kept p [] x h = absurd h
  from_kept p (y ∷ ys) x h = by (p y) refl h (from_kept p ys x)
    where
      by : (b : Bool) → p y ≡ b → Has (cond b (y ∷ filter p ys) (filter p ys)) x → (Has (filter p ys) x → Has ys x × (p x ≡ true)) → ((y ≡ x) ⊎ Has ys x) × (p x ≡ true)
      by true e (inl same) rest = (inl same, ap p (sym same) ∙ e)
      by true e (inr h) rest = let r = rest h in (inr r.0, r.1)
      by false e h rest = let r = rest h in (inr r.0, r.1)

  pub same_kept : (p : A → Bool) (xs ys : List A) → HaveSame xs ys → HaveSame (filter p xs) (filter p ys)
  same_kept p xs ys s = record {
    first = λ x h. let r = from_kept p xs x h in kept p ys x (s.first x r.0) r.1;
    second = λ x h. let r = from_kept p ys x h in kept p xs x (s.second x r.0) r.1;
  }

  -- by tests that agree on the items
  pub kept_alike : (p q : A → Bool) (xs : List A) → ((x : A) → Has xs x → p x ≡ q x) → filter p xs ≡ filter q xs
  kept_alike p q [] same = refl
  kept_alike p q (x ∷ xs) same = by (p x) (q x) (same x (inl refl)) (kept_alike p q xs (λ y h. same y (inr h)))
    where
      by : (b c : Bool) → b ≡ c → filter p xs ≡ filter q xs → cond b (x ∷ filter p xs) (filter p xs) ≡ cond c (x ∷ filter q xs) (filter q xs)
      by true true e rest = ap (λ (l : List A). x ∷ l) rest
      by false false e rest = rest
      by true false e rest = absurd (true≢false e)
      by false true e rest = absurd (true≢false (sym e))

  pub all_kept : (p : A → Bool) (xs : List A) → ((x : A) → Has xs x → p x ≡ true) → filter p xs ≡ xs
  all_kept p [] each = refl
  all_kept p (x ∷ xs) each = by (p x) (each x (inl refl)) (all_kept p xs (λ y h. each y (inr h)))
    where
      by : (b : Bool) → b ≡ true → filter p xs ≡ xs → cond b (x ∷ filter p xs) (filter p xs) ≡ x ∷ xs
      by true e rest = ap (λ (l : List A). x ∷ l) rest
      by false e rest = absurd (true≢false (sym e))

  -- ---- a test of all

  pub all_hold : (p : A → Bool) (xs : List A) → list_all p xs ≡ true → (x : A) → Has xs x → p x ≡ true
  all_hold p [] e x h = absurd h
  all_hold p (y ∷ ys) e x h = by (p y) refl e h (λ rest. all_hold p ys rest x)
    where
      by : (b : Bool) → p y ≡ b → (b && list_all p ys) ≡ true → (y ≡ x) ⊎ Has ys x → (list_all p ys ≡ true → Has ys x → p x ≡ true) → p x ≡ true
      by true is e (inl same) rest = ap p (sym same) ∙ is
      by true is e (inr h) rest = rest e h
      by false is e h rest = absurd (true≢false (sym e))

  pub all_if : (p : A → Bool) (xs : List A) → ((x : A) → Has xs x → p x ≡ true) → list_all p xs ≡ true
  all_if p [] each = refl
  all_if p (y ∷ ys) each = by (p y) (each y (inl refl)) (all_if p ys (λ x h. each x (inr h)))
    where
      by : (b : Bool) → b ≡ true → list_all p ys ≡ true → (b && list_all p ys) ≡ true
      by true e rest = rest
      by false e rest = absurd (true≢false (sym e))

  pub same_all : (p : A → Bool) (xs ys : List A) → HaveSame xs ys → list_all p xs ≡ list_all p ys
  same_all p xs ys s = by (list_all p xs) (list_all p ys) refl refl
    where
      by : (a b : Bool) → list_all p xs ≡ a → list_all p ys ≡ b → a ≡ b
      by true true e g = refl
      by false false e g = refl
      by true false e g = absurd (true≢false (sym (all_if p ys (λ x h. all_hold p xs e x (s.second x h))) ∙ g))
      by false true e g = absurd (true≢false (sym (all_if p xs (λ x h. all_hold p ys g x (s.first x h))) ∙ e))

  -- ---- a test of some

  pub some_holds : (p : A → Bool) (xs : List A) → list_any p xs ≡ true → (x : A) × Has xs x × (p x ≡ true)
  some_holds p [] e = absurd (true≢false (sym e))
  some_holds p (y ∷ ys) e = by (p y) refl e (some_holds p ys)
    where
      by : (b : Bool) → p y ≡ b → (b || list_any p ys) ≡ true → (list_any p ys ≡ true → (x : A) × Has ys x × (p x ≡ true)) → (x : A) × Has (y ∷ ys) x × (p x ≡ true)
      by true is e rest = (y, inl refl, is)
      by false is e rest = let r = rest e in (r.0, inr r.1, r.2)

  pub some_if : (p : A → Bool) (xs : List A) (x : A) → Has xs x → p x ≡ true → list_any p xs ≡ true
  some_if p [] x h is = absurd h
  some_if p (y ∷ ys) x h is = by (p y) refl h (some_if p ys x)
    where
      by : (b : Bool) → p y ≡ b → (y ≡ x) ⊎ Has ys x → (Has ys x → p x ≡ true → list_any p ys ≡ true) → (b || list_any p ys) ≡ true
      by true e h rest = refl
      by false e (inl same) rest = absurd (true≢false (sym is ∙ ap p (sym same) ∙ e))
      by false e (inr h) rest = rest h is

  pub same_any : (p : A → Bool) (xs ys : List A) → HaveSame xs ys → list_any p xs ≡ list_any p ys
  same_any p xs ys s = by (list_any p xs) (list_any p ys) refl refl
    where
      by : (a b : Bool) → list_any p xs ≡ a → list_any p ys ≡ b → a ≡ b
      by true true e g = refl
      by false false e g = refl
      by true false e g = let r = some_holds p xs e in absurd (true≢false (sym (some_if p ys r.0 (s.first r.0 r.1) r.2) ∙ g))
      by false true e g = let r = some_holds p ys g in absurd (true≢false (sym (some_if p xs r.0 (s.second r.0 r.1) r.2) ∙ e))

module _ {A B : Type 0} where
  -- ---- a map

  pub mapped : (f : A → B) (xs : List A) (x : A) → Has xs x → Has (map f xs) (f x)
  mapped f [] x h = absurd h
  mapped f (y ∷ ys) x h = by h (mapped f ys x)
    where
      by : (y ≡ x) ⊎ Has ys x → (Has ys x → Has (map f ys) (f x)) → (f y ≡ f x) ⊎ Has (map f ys) (f x)
      by (inl e) rest = inl (ap f e)
      by (inr h) rest = inr (rest h)

  pub from_mapped : (f : A → B) (xs : List A) (y : B) → Has (map f xs) y → (x : A) × Has xs x × (f x ≡ y)
  from_mapped f [] y h = absurd h
  from_mapped f (x ∷ xs) y h = by h (from_mapped f xs y)
    where
      by : (f x ≡ y) ⊎ Has (map f xs) y → (Has (map f xs) y → (z : A) × Has xs z × (f z ≡ y)) → (z : A) × Has (x ∷ xs) z × (f z ≡ y)
      by (inl e) rest = (x, inl refl, e)
      by (inr h) rest = let r = rest h in (r.0, inr r.1, r.2)

  pub same_mapped : (f : A → B) (xs ys : List A) → HaveSame xs ys → HaveSame (map f xs) (map f ys)
  same_mapped f xs ys s = record {
    first = λ y h. let r = from_mapped f xs y h in subst (Has (map f ys)) r.2 (mapped f ys r.0 (s.first r.0 r.1));
    second = λ y h. let r = from_mapped f ys y h in subst (Has (map f xs)) r.2 (mapped f xs r.0 (s.second r.0 r.1));
  }

  -- by functions that agree on the items
  pub mapped_alike : (f g : A → B) (xs : List A) → ((x : A) → Has xs x → f x ≡ g x) → map f xs ≡ map g xs
  mapped_alike f g [] same = refl
  mapped_alike f g (x ∷ xs) same =
      ap (λ (y : B). y ∷ map f xs) (same x (inl refl)) ∙ ap (λ (l : List B). g x ∷ l) (mapped_alike f g xs (λ y h. same y (inr h)))

  -- a filter of what a function gives
  pub kept_mapped : (f : A → B) (p : B → Bool) (xs : List A) → filter p (map f xs) ≡ map f (filter (λ x. p (f x)) xs)
  kept_mapped f p [] = refl
  kept_mapped f p (x ∷ xs) = by (p (f x)) (kept_mapped f p xs)
    where
      by : (b : Bool) → filter p (map f xs) ≡ map f (filter (λ x. p (f x)) xs) → cond b (f x ∷ filter p (map f xs)) (filter p (map f xs)) ≡ map f (cond b (x ∷ filter (λ x. p (f x)) xs) (filter (λ x. p (f x)) xs))
      by true rest = ap (λ (l : List B). f x ∷ l) rest
      by false rest = rest

  -- ---- lists of lists, joined

  pub joined : (f : A → List B) (xs : List A) (x : A) (y : B) → Has xs x → Has (f x) y → Has (flat_map f xs) y
  joined f [] x y h g = absurd h
  joined f (z ∷ xs) x y h g = by h (joined f xs x y)
    where
      by : (z ≡ x) ⊎ Has xs x → (Has xs x → Has (f x) y → Has (flat_map f xs) y) → Has (f z ++ flat_map f xs) y
      by (inl e) rest = has_left (f z) (flat_map f xs) y (subst (λ (x : A). Has (f x) y) (sym e) g)
      by (inr h) rest = has_right (f z) (flat_map f xs) y (rest h g)

  pub from_joined : (f : A → List B) (xs : List A) (y : B) → Has (flat_map f xs) y → (x : A) × Has xs x × Has (f x) y
  from_joined f [] y h = absurd h
  from_joined f (x ∷ xs) y h = by (has_either (f x) (flat_map f xs) y h) (from_joined f xs y)
    where
      by : Has (f x) y ⊎ Has (flat_map f xs) y → (Has (flat_map f xs) y → (z : A) × Has xs z × Has (f z) y) → (z : A) × Has (x ∷ xs) z × Has (f z) y
      by (inl h) rest = (x, inl refl, h)
      by (inr h) rest = let r = rest h in (r.0, inr r.1, r.2)

  pub joined_behind : (f : A → List B) (xs ys : List A) → flat_map f (xs ++ ys) ≡ flat_map f xs ++ flat_map f ys
  joined_behind f [] ys = refl
  joined_behind f (x ∷ xs) ys = ap (λ (l : List B). f x ++ l) (joined_behind f xs ys) ∙ sym (append_assoc (f x) (flat_map f xs) (flat_map f ys))

  pub same_lists : (f : A → List B) (xs ys : List A) → HaveSame xs ys → HaveSame (flat_map f xs) (flat_map f ys)
  same_lists f xs ys s = record {
    first = λ y h. let r = from_joined f xs y h in joined f ys r.0 y (s.first r.0 r.1) r.2;
    second = λ y h. let r = from_joined f ys y h in joined f xs r.0 y (s.second r.0 r.1) r.2;
  }

  pub same_each : (f g : A → List B) (xs : List A) → ((x : A) → Has xs x → HaveSame (f x) (g x)) → HaveSame (flat_map f xs) (flat_map g xs)
  same_each f g xs same = record {
    first = λ y h. let r = from_joined f xs y h in joined g xs r.0 y r.1 ((same r.0 r.1).first y r.2);
    second = λ y h. let r = from_joined g xs y h in joined f xs r.0 y r.1 ((same r.0 r.1).second y r.2);
  }

module _ {A B C : Type 0} where
  pub map_joined : (g : B → C) (f : A → List B) (xs : List A) → map g (flat_map f xs) ≡ flat_map (λ x. map g (f x)) xs
  map_joined g f [] = refl
  map_joined g f (x ∷ xs) = map_behind g (f x) (flat_map f xs) ∙ ap (λ (l : List C). map g (f x) ++ l) (map_joined g f xs)
    where
      map_behind : (g : B → C) (ys zs : List B) → map g (ys ++ zs) ≡ map g ys ++ map g zs
      map_behind g [] zs = refl
      map_behind g (y ∷ ys) zs = ap (λ (l : List C). g y ∷ l) (map_behind g ys zs)
