-- Items that ascend by name: where the first of a name stands.
use Rattle.std.proofs.Common.{◌≡◌, ◌∙◌, ℕ, zero, suc, ◌≤◌, ◌<◌, Bool, true, false, if◌then◌else◌, List, [], ◌∷◌, length, get_or, slice_get, Option, Some, None, refl, sym, ap, arith}
use Rattle.std.specs.Str.{bytes_eq}
use Rattle.std.specs.List.Sorted.{IsNonDecreasingBy, IsPartitionedBy, IsPartitionPoint}
use Rattle.std.specs.Ordering.{ordering_index, is_eq, is_lt, nat_cmp}
use Rattle.std.specs.Cmp.Lexicographic.{slice_cmp}
use Rattle.std.specs.declared.cmp.Ordering.{Ordering}
use Rattle.std.specs.declared.cmp.Ordering.TheVariants.{Less, Equal, Greater}
use Rattle.std.proofs.lemmas.Bool.{true≢false}
use Rattle.std.proofs.lemmas.Cmp.{nat_list_cmp_total}
use Rattle.std.proofs.lemmas.List.Sorted.{searchable_from_sorted}
use Rattle.std.proofs.lemmas.Map.Text.{is_eq-slice_cmp}
use Rattle.clu_base.proofs.Orders.{stays_less, most_is_other}
use Rattle.clu_operations.specs.ByName.{AreAscending, is_below, if_named, first_named}

same_name : (m n : List ℕ) → bytes_eq m n ≡ is_eq (slice_cmp nat_cmp m n)
same_name m n = sym (is_eq-slice_cmp m n)

module _ {A : Type 0} (name_of : A → List ℕ) where
  -- how the name of an item stands to this one
  abbrev rank : List ℕ → A → Ordering
  rank name a = slice_cmp nat_cmp (name_of a) name

  rises : (items : List A) (name : List ℕ) → AreAscending name_of items → IsNonDecreasingBy (λ (a : A). ordering_index (rank name a)) items
  rises items name up = searchable_from_sorted nat_list_cmp_total name_of items name up

  pub parted : (items : List A) (name : List ℕ) → AreAscending name_of items → IsPartitionedBy (is_below name_of name) items
  parted items name up i j d le lt e = stays_less _ _ (rises items name up i j d le lt) e

  -- ---- what stands at the place

  none_greater : (items : List A) (name : List ℕ) → ((k : ℕ) (d : A) → k < length items → 2 ≤ ordering_index (rank name (get_or items k d))) → first_named name_of name items ≡ None
  none_greater [] name above = refl
  none_greater (x ∷ xs) name above =
      let other : bytes_eq (name_of x) name ≡ false = same_name (name_of x) name ∙ most_is_other (rank name x) (above 0 x (omega arith)) in
      rw other (none_greater xs name (λ k d lt. above (suc k) d (omega (arith, lt))))

  found : (items : List A) (name : List ℕ) (i : ℕ) → IsNonDecreasingBy (λ (f : A). ordering_index (rank name f)) items
      → IsPartitionPoint (λ f. is_below name_of name f ≡ true) (λ f. is_below name_of name f ≡ false) items i → if_named name_of name (slice_get items i) ≡ first_named name_of name items
  found [] name i up at = refl
  found (x ∷ xs) name zero up at = by (rank name x) refl (at.1 0 x (omega arith) (omega arith))
    where
      by : (o : Ordering) → rank name x ≡ o → is_lt o ≡ false → (if bytes_eq (name_of x) name then Some x else None) ≡ (if bytes_eq (name_of x) name then Some x else first_named name_of name xs)
      by Less e less = absurd (true≢false less)
      by Equal e less = let same : bytes_eq (name_of x) name ≡ true = same_name (name_of x) name ∙ ap is_eq e in rw same refl
      by Greater e less =
          let other : bytes_eq (name_of x) name ≡ false = same_name (name_of x) name ∙ ap is_eq e in
          let most : ordering_index (rank name x) ≡ 2 = ap ordering_index e in
          rw other (sym (none_greater xs name (λ k d lt. omega (arith, most, up 0 (suc k) d (omega arith) (omega (arith, lt))))))
  found (x ∷ xs) name (suc i) up at =
      by (rank name x) refl (at.0 0 x (omega arith) (omega arith))
      (found xs name i (λ k j d le lt. up (suc k) (suc j) d (omega (arith, le)) (omega (arith, lt)))
      (λ k d from to. at.0 (suc k) d (omega arith) (omega (arith, to)), λ k d from to. at.1 (suc k) d (omega (arith, from)) (omega (arith, to))))
    where
      by : (o : Ordering) → rank name x ≡ o → is_lt o ≡ true → if_named name_of name (slice_get xs i) ≡ first_named name_of name xs → if_named name_of name (slice_get xs i) ≡ (if bytes_eq (name_of x) name then Some x else first_named name_of name xs)
      by Less e less more = let other : bytes_eq (name_of x) name ≡ false = same_name (name_of x) name ∙ ap is_eq e in rw other more
      by Equal e less more = absurd (true≢false (sym less))
      by Greater e less more = absurd (true≢false (sym less))

  pub found_at : (items : List A) (name : List ℕ) (i : ℕ) → AreAscending name_of items
      → IsPartitionPoint (λ f. is_below name_of name f ≡ true) (λ f. is_below name_of name f ≡ false) items i → if_named name_of name (slice_get items i) ≡ first_named name_of name items
  found_at items name i up at = found items name i (rises items name up) at
