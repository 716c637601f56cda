-- Lemmas on items of lists: at places, in lists that are joined, and in lists that are mapped.
use Rattle.std.proofs.Common.{◌≡◌, Some, None, is_some, ap, ℕ, List, true, bytes_eq, ◌<◌, zero, suc, [], ◌∷◌, length, slice_get, refl, arith, get_or, sym, ◌∙◌, subst, All, map, ◌++◌, take, ◌+◌, drop, add-one, zero-add, suc-add, inl, inr, ◌⊎◌, ◌≤◌, Contains, Option}
use Rattle.std.proofs.lemmas.Bool.{false≢true}
use Rattle.std.proofs.lemmas.List.Elements.{All-head, All-tail, Contains-append_right}
use Rattle.std.proofs.lemmas.Option.{slice_get-get_or, none-some, same_Some, get_or_from_slice_get, slice_get_within}
use Rattle.std.proofs.lemmas.Slice.Eq.{bytes_eq-Decides}
use Rattle.std.specs.declared.vec.IntoIter.{IntoIter}
use Rattle.std.specs.Vec.Iter.{into_iter_items, into_iter_steps}

pub none_is_not : {X A : Type 0} (x : X) → None ≡ Some x → A
none_is_not x e = absurd (false≢true (ap is_some e))

pub same_bytes : (a b : List ℕ) → bytes_eq a b ≡ true → a ≡ b
same_bytes a b e = (bytes_eq-Decides a b).0 e

pub as_bytes : (a b : List ℕ) → a ≡ b → bytes_eq a b ≡ true
as_bytes a b e = (bytes_eq-Decides a b).1 e

pub some_at : {X : Type 0} (xs : List X) (n : ℕ) → n < length xs → (x : X) × (slice_get xs n ≡ Some x)
some_at [] n lt = absurd (omega arith)
some_at (x ∷ xs) zero lt = (x, refl)
some_at (x ∷ xs) (suc n) lt = some_at xs n (omega arith)

pub item_at : {X : Type 0} (xs : List X) (n : ℕ) (x : X) → n < length xs → x ≡ get_or xs n x → slice_get xs n ≡ Some x
item_at xs n x lt is = slice_get-get_or xs n x lt ∙ ap Some (sym is)

pub all_got : {X : Type 0} (P : X → Type 0) (xs : List X) (k : ℕ) (x : X) → All P xs → slice_get xs k ≡ Some x → P x
all_got P [] k x all e = absurd (none-some x e)
all_got P (y ∷ ys) zero x all e = subst P (same_Some y x e) (All-head P y ys all)
all_got P (y ∷ ys) (suc k) x all e = all_got P ys k x (All-tail P y ys all) e

pub map_size : {X Y : Type 0} (f : X → Y) (xs : List X) → length (map f xs) ≡ length xs
map_size f [] = refl
map_size f (x ∷ xs) = ap suc (map_size f xs)

pub mapped : {X Y Z : Type 0} (g : Y → Z) (f : X → Y) (xs : List X) → map (λ x. g (f x)) xs ≡ map g (map f xs)
mapped g f [] = refl
mapped g f (x ∷ xs) = ap (λ l. g (f x) ∷ l) (mapped g f xs)

pub mapped_at : {X Y : Type 0} (f : X → Y) (xs : List X) (k : ℕ) (x : X) → slice_get xs k ≡ Some x → slice_get (map f xs) k ≡ Some (f x)
mapped_at f [] k x e = none_is_not x e
mapped_at f (y ∷ xs) zero x e = ap (λ z. Some (f z)) (same_Some y x e)
mapped_at f (y ∷ xs) (suc k) x e = mapped_at f xs k x e

pub take_next : {X : Type 0} (xs : List X) (n : ℕ) (x : X) → slice_get xs n ≡ Some x → take (suc n) xs ≡ take n xs ++ x ∷ []
take_next [] n x e = absurd (cc)
take_next (y ∷ xs) zero x e = let same : y ≡ x = cc in ap (λ (y : _). y ∷ []) same
take_next (y ∷ xs) (suc n) x e = ap (λ (ys : List _). y ∷ ys) (take_next xs n x e)

pub dropped : {X : Type 0} (xs : List X) (i : ℕ) (x : X) → slice_get xs i ≡ Some x → drop i xs ≡ x ∷ drop (i + 1) xs
dropped {X} xs i x at = from xs i at ∙ ap (λ (k : ℕ). x ∷ drop k xs) (sym (add-one i))
  where
    from : (xs : List X) (i : ℕ) → slice_get xs i ≡ Some x → drop i xs ≡ x ∷ drop (suc i) xs
    from [] i at = absurd (none-some x at)
    from (y ∷ xs) zero at = ap (λ (z : X). z ∷ xs) (same_Some y x at)
    from (y ∷ xs) (suc i) at = from xs i at

-- what a list has at a place it has there with others behind it
pub got_front : {X : Type 0} (xs ys : List X) (i : ℕ) (x : X) → slice_get xs i ≡ Some x → slice_get (xs ++ ys) i ≡ Some x
got_front [] ys i x e = absurd (cc)
got_front (y ∷ xs) ys zero x e = e
got_front (y ∷ xs) ys (suc i) x e = got_front xs ys i x e

pub front_of : {X : Type 0} (xs ys : List X) (k : ℕ) (x : X) → k < length xs → slice_get (xs ++ ys) k ≡ Some x → slice_get xs k ≡ Some x
front_of [] ys k x lt e = absurd (omega arith)
front_of (y ∷ xs) ys zero x lt e = e
front_of (y ∷ xs) ys (suc k) x lt e = front_of xs ys k x (omega arith) e

pub front_get : {A : Type 0} (xs ys : List A) (k : ℕ) → k < length xs → slice_get (xs ++ ys) k ≡ slice_get xs k
front_get [] ys k less = absurd (omega (arith, less))
front_get (x ∷ xs) ys zero less = refl
front_get (x ∷ xs) ys (suc k) less = front_get xs ys k (omega (arith, less))

pub get_shifted : {X : Type 0} (xs ys : List X) (i : ℕ) → slice_get (xs ++ ys) (length xs + i) ≡ slice_get ys i
get_shifted [] ys i = ap (λ (k : ℕ). slice_get ys k) (zero-add i)
get_shifted (x ∷ xs) ys i = ap (λ (k : ℕ). slice_get (x ∷ (xs ++ ys)) k) (suc-add (length xs) i) ∙ get_shifted xs ys i

-- in the first list, or in the second
pub split : {X : Type 0} (xs ys : List X) (i : ℕ) (x : X) → slice_get (xs ++ ys) i ≡ Some x → (slice_get xs i ≡ Some x) ⊎ ((j : ℕ) × (i ≡ length xs + j) × (slice_get ys j ≡ Some x))
split [] ys i x e = inr (i, sym (zero-add i), e)
split (y ∷ xs) ys zero x e = inl e
split (y ∷ xs) ys (suc i) x e = elim (split xs ys i x e) [
  | inl front ↦ inl front
  | inr behind ↦ inr (behind.0, ap suc behind.1 ∙ sym (suc-add (length xs) behind.0), behind.2)
]

pub get_before : {X : Type 0} (xs : List X) (y : X) (n : ℕ) → n < length xs → slice_get (xs ++ y ∷ []) n ≡ slice_get xs n
get_before [] y n lt = absurd (omega (arith, lt))
get_before (x ∷ xs) y zero lt = refl
get_before (x ∷ xs) y (suc n) lt = get_before xs y n (omega (arith, lt))

pub get_last : {A : Type 0} (xs : List A) (x : A) → slice_get (xs ++ x ∷ []) (length xs) ≡ Some x
get_last [] x = refl
get_last (y ∷ ys) x = get_last ys x

pub at_seam : {X : Type 0} (xs : List X) (y x : X) (j : ℕ) → length xs ≤ j → slice_get (xs ++ y ∷ []) j ≡ Some x → y ≡ x
at_seam [] y x zero le e = same_Some y x e
at_seam [] y x (suc j) le e = none_is_not x e
at_seam (z ∷ xs) y x zero le e = absurd (omega arith)
at_seam (z ∷ xs) y x (suc j) le e = at_seam xs y x j (omega arith) e

-- a list with items has the first or one of the others
pub head_or_tail : {X : Type 0} (x : X) (xs : List X) (m : X) → Contains (x ∷ xs) m → (x ≡ m) ⊎ Contains xs m
head_or_tail x xs m h = by h.0 h.1 h.2
  where
    by : (k : ℕ) → k < length (x ∷ xs) → get_or (x ∷ xs) k m ≡ m → (x ≡ m) ⊎ Contains xs m
    by zero lt is = inl is
    by (suc k) lt is = inr (k, omega arith, is)

pub in_head : {X : Type 0} (x : X) (xs : List X) (m : X) → x ≡ m → Contains (x ∷ xs) m
in_head x xs m is = (0, omega arith, is)

pub in_tail : {X : Type 0} (x : X) (xs : List X) (m : X) → Contains xs m → Contains (x ∷ xs) m
in_tail x xs m h = Contains-append_right (x ∷ []) xs m h

pub in_none : {X A : Type 0} (m : X) → Contains [] m → A
in_none m h = absurd (omega (arith, h.1))

-- the place of what a list has
pub place_in : {X : Type 0} (xs : List X) (m : X) → Contains xs m → (k : ℕ) × (k < length xs) × (slice_get xs k ≡ Some m)
place_in xs m h = (h.0, h.1, slice_get-get_or xs h.0 m h.1 ∙ ap Some h.2)

pub is_there : {X : Type 0} (xs : List X) (k : ℕ) (m : X) → slice_get xs k ≡ Some m → Contains xs m
is_there xs k m e = (k, slice_get_within xs k m e, get_or_from_slice_get xs k m m e)

-- what the iterator of a vector gives
pub next_item : {A Z : Type 0} (s t : IntoIter A Z) (r : Option A) (x : A) → r ≡ Some x → into_iter_steps s r t → into_iter_items s ≡ x ∷ into_iter_items t
next_item {A} {Z} s t r x is steps = (subst (λ (o : Option A). into_iter_steps s o t) is steps).0
