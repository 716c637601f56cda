-- Lists that ascend by name: the place of a name, and what is found and put there.
use Rattle.std.proofs.Common.{◌≡◌, ℕ, ◌<◌, ◌≤◌, zero, suc, List, [], ◌∷◌, length, get_or, set, Option, None, Result, Ok, Err, Bool, true, false, slice_get, find, refl, ap, sym, ◌∙◌, arith}
use Rattle.std.specs.List.{insert, filter, HoldsAt}
use Rattle.std.proofs.Math.Bool.{cond}
use Rattle.std.specs.List.Sorted.{IsSearchInRange, IsBinarySearchResult, IsNonDecreasingBy}
use Rattle.std.specs.Ordering.{ordering_index, ordering_reverse, is_eq}
use borrow.Author.Tests.{ltb-true, ltb-false}
use Rattle.std.proofs.Math.Dec.{ltb}
use Rattle.std.specs.Str.{bytes_eq}
use Rattle.std.proofs.lemmas.Cmp.{nat_list_cmp_total, alike_right}
use Rattle.std.proofs.lemmas.Map.Text.{is_eq-slice_cmp}
use Rattle.std.specs.declared.cmp.Ordering.{Ordering}
use Rattle.std.specs.declared.cmp.Ordering.TheVariants.{Less, Equal, Greater}
use Rattle.clu_base.proofs.Orders.{most_index}
use Rattle.clu_types.specs.Specs.{name_order, further, place_by}
use Rattle.clu_library.specs.ByName.{ComeAfter, AreAscending, placed, with_item, place_of}

trans : (x y z : List ℕ) → name_order x y ≡ Less → name_order y z ≡ Less → name_order x z ≡ Less
trans = nat_list_cmp_total.trans

back : (x y : List ℕ) → name_order x y ≡ Greater → name_order y x ≡ Less
back x y e = nat_list_cmp_total.antisymm y x ∙ ap ordering_reverse e

-- a name before another comes before all after it
after_less : {X : Type 0} (f : X → List ℕ) (m n : List ℕ) (xs : List X) → name_order m n ≡ Less → ComeAfter f n xs → ComeAfter f m xs
after_less f m n [] e h = tt
after_less f m n (x ∷ xs) e h = (trans m n (f x) e h.0, after_less f m n xs e h.1)

after_equal : {X : Type 0} (f : X → List ℕ) (m n : List ℕ) (xs : List X) → name_order m n ≡ Equal → ComeAfter f m xs → ComeAfter f n xs
after_equal f m n [] e h = tt
after_equal f m n (x ∷ xs) e h = (sym (nat_list_cmp_total.congr m n (f x) e) ∙ h.0, after_equal f m n xs e h.1)

-- the list stays ascending with one item more
after_with : {X : Type 0} (f : X → List ℕ) (n : List ℕ) (xs : List X) (s : X) → ComeAfter f n xs → name_order n (f s) ≡ Less → ComeAfter f n (with_item f xs s)
after_with f n [] s h e = (e, tt)
after_with {X} f n (x ∷ xs) s h e = by (name_order (f x) (f s)) (after_with f n xs s h.1 e)
  where
    by : (o : Ordering) → ComeAfter f n (with_item f xs s) → ComeAfter f n (placed o s x xs (with_item f xs s))
    by Less behind = (h.0, behind)
    by Equal behind = (e, h.1)
    by Greater behind = (e, h)

pub ascending_with : {X : Type 0} (f : X → List ℕ) (xs : List X) (s : X) → AreAscending f xs → AreAscending f (with_item f xs s)
ascending_with f [] s a = (tt, tt)
ascending_with {X} f (x ∷ xs) s a = by (name_order (f x) (f s)) refl (ascending_with f xs s a.1)
  where
    by : (o : Ordering) → name_order (f x) (f s) ≡ o → AreAscending f (with_item f xs s) → AreAscending f (placed o s x xs (with_item f xs s))
    by Less e behind = (after_with f (f x) xs s a.0 e, behind)
    by Equal e behind = (after_equal f (f x) (f s) xs e a.0, a.1)
    by Greater e behind = let less : name_order (f s) (f x) ≡ Less = back (f x) (f s) e in ((less, after_less f (f s) (f x) xs less a.0), a)

-- what a place says of the list with one item more
abbrev pub put_at : {X : Type 0} → Result ℕ ℕ → List X → X → List X
put_at (Ok i) xs s = set xs i s
put_at (Err i) xs s = insert xs i s

further-put : {X : Type 0} (r : Result ℕ ℕ) (x : X) (xs : List X) (s : X) → put_at (further r) (x ∷ xs) s ≡ x ∷ put_at r xs s
further-put (Ok i) x xs s = refl
further-put (Err i) x xs s = refl

pub with_at_place : {X : Type 0} (f : X → List ℕ) (xs : List X) (s : X) → with_item f xs s ≡ put_at (place_of f xs (f s)) xs s
with_at_place f [] s = refl
with_at_place {X} f (x ∷ xs) s = by (name_order (f x) (f s)) (with_at_place f xs s)
  where
    by : (o : Ordering) → with_item f xs s ≡ put_at (place_of f xs (f s)) xs s → placed o s x xs (with_item f xs s) ≡ put_at (place_by o (place_of f xs (f s))) (x ∷ xs) s
    by Less behind = ap (λ (ys : List X). x ∷ ys) behind ∙ sym (further-put (place_of f xs (f s)) x xs s)
    by Equal behind = refl
    by Greater behind = refl

-- what is found at a place
abbrev pub found_at : {X : Type 0} → Result ℕ ℕ → List X → Option X
found_at (Ok i) xs = slice_get xs i
found_at (Err i) xs = None

further-found : {X : Type 0} (r : Result ℕ ℕ) (x : X) (xs : List X) → found_at (further r) (x ∷ xs) ≡ found_at r xs
further-found (Ok i) x xs = refl
further-found (Err i) x xs = refl

same_name : (m n : List ℕ) → bytes_eq m n ≡ is_eq (name_order m n)
same_name m n = sym (is_eq-slice_cmp m n)

-- no name after a greater one is this
find_none : {X : Type 0} (f : X → List ℕ) (n : List ℕ) (xs : List X) → ComeAfter f n xs → find (λ x. bytes_eq (f x) n) xs ≡ None
find_none f n [] h = refl
find_none f n (x ∷ xs) h =
    let greater : name_order (f x) n ≡ Greater = nat_list_cmp_total.antisymm (f x) n ∙ ap ordering_reverse h.0 in
    let other : bytes_eq (f x) n ≡ false = same_name (f x) n ∙ ap is_eq greater in
    rw other (find_none f n xs h.1)

pub find_at_place : {X : Type 0} (f : X → List ℕ) (xs : List X) → AreAscending f xs → (n : List ℕ) → find (λ x. bytes_eq (f x) n) xs ≡ found_at (place_of f xs n) xs
find_at_place f [] a n = refl
find_at_place {X} f (x ∷ xs) a n = by (name_order (f x) n) refl (find_at_place f xs a.1 n)
  where
    by : (o : Ordering) → name_order (f x) n ≡ o → find (λ (y : X). bytes_eq (f y) n) xs ≡ found_at (place_of f xs n) xs → find (λ (y : X). bytes_eq (f y) n) (x ∷ xs) ≡ found_at (place_by o (place_of f xs n)) (x ∷ xs)
    by Less e behind = let other : bytes_eq (f x) n ≡ false = same_name (f x) n ∙ ap is_eq e in rw other (behind ∙ sym (further-found (place_of f xs n) x xs))
    by Equal e behind = let this : bytes_eq (f x) n ≡ true = same_name (f x) n ∙ ap is_eq e in rw this refl
    by Greater e behind =
        let other : bytes_eq (f x) n ≡ false = same_name (f x) n ∙ ap is_eq e in
        rw other (find_none f n xs (after_less f n (f x) xs (back (f x) n e) a.0))

-- a binary search ends at the place
after_at : {X : Type 0} (f : X → List ℕ) (n : List ℕ) (xs : List X) (i : ℕ) (d : X) → ComeAfter f n xs → i < length xs → name_order n (f (get_or xs i d)) ≡ Less
after_at f n [] i d h lt = absurd (omega arith)
after_at f n (x ∷ xs) zero d h lt = h.0
after_at f n (x ∷ xs) (suc i) d h lt = after_at f n xs i d h.1 (omega arith)

before : {X : Type 0} (f : X → List ℕ) (xs : List X) → AreAscending f xs → (i j : ℕ) (d : X) → i < j → j < length xs → name_order (f (get_or xs i d)) (f (get_or xs j d)) ≡ Less
before f [] a i j d lt le = absurd (omega arith)
before f (x ∷ xs) a zero zero d lt le = absurd (omega arith)
before f (x ∷ xs) a zero (suc j) d lt le = after_at f (f x) xs j d a.0 (omega arith)
before f (x ∷ xs) a (suc i) zero d lt le = absurd (omega arith)
before f (x ∷ xs) a (suc i) (suc j) d lt le = before f xs a.1 i j d (omega arith) (omega arith)

rises : (m k n : List ℕ) → name_order m k ≡ Less → (o : Ordering) → name_order k n ≡ o → ordering_index (name_order m n) ≤ ordering_index o
rises m k n less Less e = rw (trans m k n less e) (omega arith)
rises m k n less Equal e = let same : name_order m n ≡ Less = sym (alike_right nat_list_cmp_total k n m e) ∙ less in rw same (omega arith)
rises m k n less Greater e = most_index (name_order m n)

pub rising : {X : Type 0} (f : X → List ℕ) (xs : List X) → AreAscending f xs → (n : List ℕ) → IsNonDecreasingBy (λ x. ordering_index (name_order (f x) n)) xs
rising f xs a n i j d le lt = by (ltb i j) refl
  where
    by : (b : Bool) → ltb i j ≡ b → ordering_index (name_order (f (get_or xs i d)) n) ≤ ordering_index (name_order (f (get_or xs j d)) n)
    by true e = let less : i < j = omega (arith, ltb-true) in rises _ _ n (before f xs a i j d less lt) _ refl
    by false e = let same : i ≡ j = omega (arith, ltb-false) in rw same (omega arith)

place_found : {X : Type 0} (f : X → List ℕ) (xs : List X) → AreAscending f xs → (n : List ℕ) (i : ℕ) → i < length xs → HoldsAt (λ x. name_order (f x) n ≡ Equal) xs i → place_of f xs n ≡ Ok i
place_found f [] a n i lt h = absurd (omega arith)
place_found f (x ∷ xs) a n zero lt h = rw (h x) refl
place_found f (x ∷ xs) a n (suc i) lt h =
    let there : name_order (f x) (f (get_or xs i x)) ≡ Less = after_at f (f x) xs i x a.0 (omega arith) in
    let less : name_order (f x) n ≡ Less = sym (alike_right nat_list_cmp_total (f (get_or xs i x)) n (f x) (h x)) ∙ there in
    rw less (ap further (place_found f xs a.1 n i (omega arith) (λ d. h d)))

place_gap : {X : Type 0} (f : X → List ℕ) (xs : List X) (n : List ℕ) (i : ℕ) → i ≤ length xs
    → ((k : ℕ) (d : X) → k < i → name_order (f (get_or xs k d)) n ≡ Less)
    → ((k : ℕ) (d : X) → i ≤ k → k < length xs → name_order (f (get_or xs k d)) n ≡ Greater) → place_of f xs n ≡ Err i
place_gap f [] n i le less greater = ap Err (omega arith)
place_gap f (x ∷ xs) n zero le less greater = rw (greater 0 x (omega arith) (omega arith)) refl
place_gap f (x ∷ xs) n (suc i) le less greater =
    rw (less 0 x (omega arith))
    (ap further (place_gap f xs n i (omega arith) (λ k d lt. less (suc k) d (omega arith)) (λ k d le lt. greater (suc k) d (omega arith) (omega arith))))

pub searched : {X : Type 0} (f : X → List ℕ) (xs : List X) → AreAscending f xs → (n : List ℕ) (r : Result ℕ ℕ) → IsSearchInRange r (length xs) → IsBinarySearchResult (λ x. name_order (f x) n) xs r → r ≡ place_of f xs n
searched f xs a n (Ok i) within h = sym (place_found f xs a n i within h)
searched f xs a n (Err i) within h =
    let parted = h (rising f xs a n) in
    sym (place_gap f xs n i within (λ k d lt. parted.0 k d (omega arith) lt) (λ k d le lt. parted.1 k d le lt))

-- what is kept of a list stays ascending
after_kept : {X : Type 0} (f : X → List ℕ) (test : X → Bool) (n : List ℕ) (xs : List X) → ComeAfter f n xs → ComeAfter f n (filter test xs)
after_kept f test n [] h = tt
after_kept {X} f test n (x ∷ xs) h = by (test x) (after_kept f test n xs h.1)
  where
    by : (b : Bool) → ComeAfter f n (filter test xs) → ComeAfter f n (cond b (x ∷ filter test xs) (filter test xs))
    by true behind = (h.0, behind)
    by false behind = behind

pub ascending_kept : {X : Type 0} (f : X → List ℕ) (test : X → Bool) (xs : List X) → AreAscending f xs → AreAscending f (filter test xs)
ascending_kept f test [] a = tt
ascending_kept {X} f test (x ∷ xs) a = by (test x) (ascending_kept f test xs a.1)
  where
    by : (b : Bool) → AreAscending f (filter test xs) → AreAscending f (cond b (x ∷ filter test xs) (filter test xs))
    by true behind = (after_kept f test (f x) xs a.0, behind)
    by false behind = behind
