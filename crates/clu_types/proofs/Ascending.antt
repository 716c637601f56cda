-- Lists of specifications that ascend by name: the place of a name, and what is found and put there.
use Rattle.std.proofs.Common.{◌≡◌, ℕ, ◌<◌, ◌≤◌, zero, suc, List, [], ◌∷◌, length, get_or, set, Option, None, Result, Ok, Err, Bool, true, false, slice_get, find, refl, ap, sym, ◌∙◌, arith}
use Rattle.std.specs.List.{insert, HoldsAt}
use Rattle.std.specs.List.Sorted.{IsSearchInRange, IsBinarySearchResult, IsNonDecreasingBy}
use Rattle.std.specs.Ordering.{ordering_index, ordering_reverse, is_eq}
use borrow.Author.Tests.{ltb-true, ltb-false}
use Rattle.std.proofs.Math.Dec.{ltb}
use Rattle.std.specs.Str.{bytes_eq}
use Rattle.std.proofs.lemmas.Cmp.{nat_list_cmp_total, alike_right}
use Rattle.std.proofs.lemmas.Map.Text.{is_eq-slice_cmp}
use Rattle.std.specs.declared.cmp.Ordering.{Ordering}
use Rattle.std.specs.declared.cmp.Ordering.TheVariants.{Less, Equal, Greater}
use Rattle.clu_base.proofs.Orders.{most_index}
use Rattle.clu_types.specs.declared.spec.Spec.{Spec}
use Rattle.clu_types.specs.Specs.{name_order, ComeAfter, AreAscending, placed, with_spec, further, place_by, place_of}

trans : (x y z : List ℕ) → name_order x y ≡ Less → name_order y z ≡ Less → name_order x z ≡ Less
trans = nat_list_cmp_total.trans

back : (x y : List ℕ) → name_order x y ≡ Greater → name_order y x ≡ Less
back x y e = nat_list_cmp_total.antisymm y x ∙ ap ordering_reverse e

-- a name before another comes before all after it
after_less : (m n : List ℕ) (xs : List Spec) → name_order m n ≡ Less → ComeAfter n xs → ComeAfter m xs
after_less m n [] e h = tt
after_less m n (x ∷ xs) e h = (trans m n x.name e h.0, after_less m n xs e h.1)

after_equal : (m n : List ℕ) (xs : List Spec) → name_order m n ≡ Equal → ComeAfter m xs → ComeAfter n xs
after_equal m n [] e h = tt
after_equal m n (x ∷ xs) e h = (sym (nat_list_cmp_total.congr m n x.name e) ∙ h.0, after_equal m n xs e h.1)

-- the list stays ascending with one specification more
after_with : (n : List ℕ) (xs : List Spec) (s : Spec) → ComeAfter n xs → name_order n s.name ≡ Less → ComeAfter n (with_spec xs s)
after_with n [] s h e = (e, tt)
after_with n (x ∷ xs) s h e = by (name_order x.name s.name) (after_with n xs s h.1 e)
  where
    by : (o : Ordering) → ComeAfter n (with_spec xs s) → ComeAfter n (placed o s x xs (with_spec xs s))
    by Less behind = (h.0, behind)
    by Equal behind = (e, h.1)
    by Greater behind = (e, h)

pub ascending_with : (xs : List Spec) (s : Spec) → AreAscending xs → AreAscending (with_spec xs s)
ascending_with [] s a = (tt, tt)
ascending_with (x ∷ xs) s a = by (name_order x.name s.name) refl (ascending_with xs s a.1)
  where
    by : (o : Ordering) → name_order x.name s.name ≡ o → AreAscending (with_spec xs s) → AreAscending (placed o s x xs (with_spec xs s))
    by Less e behind = (after_with x.name xs s a.0 e, behind)
    by Equal e behind = (after_equal x.name s.name xs e a.0, a.1)
    by Greater e behind = let less : name_order s.name x.name ≡ Less = back x.name s.name e in ((less, after_less s.name x.name xs less a.0), a)

-- what a place says of the list with one specification more
abbrev pub put_at : Result ℕ ℕ → List Spec → Spec → List Spec
put_at (Ok i) xs s = set xs i s
put_at (Err i) xs s = insert xs i s

further-put : (r : Result ℕ ℕ) (x : Spec) (xs : List Spec) (s : Spec) → put_at (further r) (x ∷ xs) s ≡ x ∷ put_at r xs s
further-put (Ok i) x xs s = refl
further-put (Err i) x xs s = refl

pub with_at_place : (xs : List Spec) (s : Spec) → with_spec xs s ≡ put_at (place_of xs s.name) xs s
with_at_place [] s = refl
with_at_place (x ∷ xs) s = by (name_order x.name s.name) (with_at_place xs s)
  where
    by : (o : Ordering) → with_spec xs s ≡ put_at (place_of xs s.name) xs s → placed o s x xs (with_spec xs s) ≡ put_at (place_by o (place_of xs s.name)) (x ∷ xs) s
    by Less behind = ap (λ (ys : List Spec). x ∷ ys) behind ∙ sym (further-put (place_of xs s.name) x xs s)
    by Equal behind = refl
    by Greater behind = refl

-- what is found at a place
abbrev pub found_at : Result ℕ ℕ → List Spec → Option Spec
found_at (Ok i) xs = slice_get xs i
found_at (Err i) xs = None

further-found : (r : Result ℕ ℕ) (x : Spec) (xs : List Spec) → found_at (further r) (x ∷ xs) ≡ found_at r xs
further-found (Ok i) x xs = refl
further-found (Err i) x xs = refl

same_name : (m n : List ℕ) → bytes_eq m n ≡ is_eq (name_order m n)
same_name m n = sym (is_eq-slice_cmp m n)

-- no name after a greater one is this
find_none : (n : List ℕ) (xs : List Spec) → ComeAfter n xs → find (λ (s : Spec). bytes_eq s.name n) xs ≡ None
find_none n [] h = refl
find_none n (x ∷ xs) h =
    let greater : name_order x.name n ≡ Greater = nat_list_cmp_total.antisymm x.name n ∙ ap ordering_reverse h.0 in
    let other : bytes_eq x.name n ≡ false = same_name x.name n ∙ ap is_eq greater in
    rw other (find_none n xs h.1)

pub find_at_place : (xs : List Spec) → AreAscending xs → (n : List ℕ) → find (λ (s : Spec). bytes_eq s.name n) xs ≡ found_at (place_of xs n) xs
find_at_place [] a n = refl
find_at_place (x ∷ xs) a n = by (name_order x.name n) refl (find_at_place xs a.1 n)
  where
    by : (o : Ordering) → name_order x.name n ≡ o → find (λ (s : Spec). bytes_eq s.name n) xs ≡ found_at (place_of xs n) xs → find (λ (s : Spec). bytes_eq s.name n) (x ∷ xs) ≡ found_at (place_by o (place_of xs n)) (x ∷ xs)
    by Less e behind = let other : bytes_eq x.name n ≡ false = same_name x.name n ∙ ap is_eq e in rw other (behind ∙ sym (further-found (place_of xs n) x xs))
    by Equal e behind = let this : bytes_eq x.name n ≡ true = same_name x.name n ∙ ap is_eq e in rw this refl
    by Greater e behind =
        let other : bytes_eq x.name n ≡ false = same_name x.name n ∙ ap is_eq e in
        rw other (find_none n xs (after_less n x.name xs (back x.name n e) a.0))

-- a binary search ends at the place
after_at : (n : List ℕ) (xs : List Spec) (i : ℕ) (d : Spec) → ComeAfter n xs → i < length xs → name_order n (get_or xs i d).name ≡ Less
after_at n [] i d h lt = absurd (omega arith)
after_at n (x ∷ xs) zero d h lt = h.0
after_at n (x ∷ xs) (suc i) d h lt = after_at n xs i d h.1 (omega arith)

before : (xs : List Spec) → AreAscending xs → (i j : ℕ) (d : Spec) → i < j → j < length xs → name_order (get_or xs i d).name (get_or xs j d).name ≡ Less
before [] a i j d lt le = absurd (omega arith)
before (x ∷ xs) a zero zero d lt le = absurd (omega arith)
before (x ∷ xs) a zero (suc j) d lt le = after_at x.name xs j d a.0 (omega arith)
before (x ∷ xs) a (suc i) zero d lt le = absurd (omega arith)
before (x ∷ xs) a (suc i) (suc j) d lt le = before xs a.1 i j d (omega arith) (omega arith)

rises : (m k n : List ℕ) → name_order m k ≡ Less → (o : Ordering) → name_order k n ≡ o → ordering_index (name_order m n) ≤ ordering_index o
rises m k n less Less e = rw (trans m k n less e) (omega arith)
rises m k n less Equal e = let same : name_order m n ≡ Less = sym (alike_right nat_list_cmp_total k n m e) ∙ less in rw same (omega arith)
rises m k n less Greater e = most_index (name_order m n)

rising : (xs : List Spec) → AreAscending xs → (n : List ℕ) → IsNonDecreasingBy (λ (s : Spec). ordering_index (name_order s.name n)) xs
rising xs a n i j d le lt = by (ltb i j) refl
  where
    by : (b : Bool) → ltb i j ≡ b → ordering_index (name_order (get_or xs i d).name n) ≤ ordering_index (name_order (get_or xs j d).name n)
    by true e = let less : i < j = omega (arith, ltb-true) in rises _ _ n (before xs a i j d less lt) _ refl
    by false e = let same : i ≡ j = omega (arith, ltb-false) in rw same (omega arith)

place_found : (xs : List Spec) → AreAscending xs → (n : List ℕ) (i : ℕ) → i < length xs → HoldsAt (λ (s : Spec). name_order s.name n ≡ Equal) xs i → place_of xs n ≡ Ok i
place_found [] a n i lt h = absurd (omega arith)
place_found (x ∷ xs) a n zero lt h = rw (h x) refl
place_found (x ∷ xs) a n (suc i) lt h =
    let there : name_order x.name (get_or xs i x).name ≡ Less = after_at x.name xs i x a.0 (omega arith) in
    let less : name_order x.name n ≡ Less = sym (alike_right nat_list_cmp_total (get_or xs i x).name n x.name (h x)) ∙ there in
    rw less (ap further (place_found xs a.1 n i (omega arith) (λ d. h d)))

place_gap : (xs : List Spec) (n : List ℕ) (i : ℕ) → i ≤ length xs
    → ((k : ℕ) (d : Spec) → k < i → name_order (get_or xs k d).name n ≡ Less)
    → ((k : ℕ) (d : Spec) → i ≤ k → k < length xs → name_order (get_or xs k d).name n ≡ Greater) → place_of xs n ≡ Err i
place_gap [] n i le less greater = ap Err (omega arith)
place_gap (x ∷ xs) n zero le less greater = rw (greater 0 x (omega arith) (omega arith)) refl
place_gap (x ∷ xs) n (suc i) le less greater =
    rw (less 0 x (omega arith))
    (ap further (place_gap xs n i (omega arith) (λ k d lt. less (suc k) d (omega arith)) (λ k d le lt. greater (suc k) d (omega arith) (omega arith))))

pub searched : (xs : List Spec) → AreAscending xs → (n : List ℕ) (r : Result ℕ ℕ) → IsSearchInRange r (length xs) → IsBinarySearchResult (λ (s : Spec). name_order s.name n) xs r → r ≡ place_of xs n
searched xs a n (Ok i) within h = sym (place_found xs a n i within h)
searched xs a n (Err i) within h =
    let parted = h (rising xs a n) in
    sym (place_gap xs n i within (λ k d lt. parted.0 k d (omega arith) lt) (λ k d le lt. parted.1 k d le lt))
