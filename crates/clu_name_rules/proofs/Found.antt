-- Components that ascend by name: where the first of a name stands.
use Rattle.std.proofs.Common.{◌≡◌, ◌∙◌, ℕ, zero, suc, ◌≤◌, ◌<◌, Bool, true, false, if◌then◌else◌, List, [], ◌∷◌, length, get_or, slice_get, Some, None, refl, sym, ap, arith}
use Rattle.std.specs.Str.{bytes_eq}
use Rattle.std.specs.List.Sorted.{IsNonDecreasingBy, IsPartitionedBy, IsPartitionPoint}
use Rattle.std.specs.Ordering.{ordering_index, is_eq, is_lt, nat_cmp}
use Rattle.std.specs.Cmp.Lexicographic.{slice_cmp}
use Rattle.std.specs.declared.cmp.Ordering.{Ordering}
use Rattle.std.specs.declared.cmp.Ordering.TheVariants.{Less, Equal, Greater}
use Rattle.std.proofs.lemmas.Bool.{true≢false}
use Rattle.std.proofs.lemmas.Cmp.{nat_list_cmp_total}
use Rattle.std.proofs.lemmas.List.Sorted.{searchable_from_sorted}
use Rattle.std.proofs.lemmas.Map.Text.{is_eq-slice_cmp}
use Rattle.std.proofs.lemmas.Option.{none-some, same_Some}
use Rattle.clu_base.proofs.Orders.{stays_less, most_is_other}
use Rattle.clu_types.specs.declared.term.Field.{Field}
use Rattle.clu_types.specs.declared.term.Term.{Term}
use Rattle.clu_types.specs.declared.term.Term.TheVariants as term
use Rattle.clu_name_rules.specs.Components.{AreAscending, component_type, components_of, fields_of, is_below, type_if_named}

-- how a field's name stands to this one
abbrev rank : List ℕ → Field → Ordering
rank name field = slice_cmp nat_cmp field.name name

rises : (fields : List Field) (name : List ℕ) → AreAscending fields → IsNonDecreasingBy (λ (f : Field). ordering_index (rank name f)) fields
rises fields name up = searchable_from_sorted nat_list_cmp_total (λ (f : Field). f.name) fields name up

pub parted : (fields : List Field) (name : List ℕ) → AreAscending fields → IsPartitionedBy (is_below name) fields
parted fields name up i j d le lt e = stays_less _ _ (rises fields name up i j d le lt) e

-- ---- what stands at the place

same_name : (m n : List ℕ) → bytes_eq m n ≡ is_eq (slice_cmp nat_cmp m n)
same_name m n = sym (is_eq-slice_cmp m n)

none_greater : (fields : List Field) (name : List ℕ) → ((k : ℕ) (d : Field) → k < length fields → 2 ≤ ordering_index (rank name (get_or fields k d))) → component_type fields name ≡ None
none_greater [] name above = refl
none_greater (x ∷ xs) name above =
    let other : bytes_eq x.name name ≡ false = same_name x.name name ∙ most_is_other (rank name x) (above 0 x (omega arith)) in
    rw other (none_greater xs name (λ k d lt. above (suc k) d (omega (arith, lt))))

found : (fields : List Field) (name : List ℕ) (i : ℕ) → IsNonDecreasingBy (λ (f : Field). ordering_index (rank name f)) fields
    → IsPartitionPoint (λ f. is_below name f ≡ true) (λ f. is_below name f ≡ false) fields i → type_if_named (slice_get fields i) name ≡ component_type fields name
found [] name i up at = refl
found (x ∷ xs) name zero up at = by (rank name x) refl (at.1 0 x (omega arith) (omega arith))
  where
    by : (o : Ordering) → rank name x ≡ o → is_lt o ≡ false → (if bytes_eq x.name name then Some x.of else None) ≡ (if bytes_eq x.name name then Some x.of else component_type xs name)
    by Less e less = absurd (true≢false less)
    by Equal e less = let same : bytes_eq x.name name ≡ true = same_name x.name name ∙ ap is_eq e in rw same refl
    by Greater e less =
        let other : bytes_eq x.name name ≡ false = same_name x.name name ∙ ap is_eq e in
        let most : ordering_index (rank name x) ≡ 2 = ap ordering_index e in
        rw other (sym (none_greater xs name (λ k d lt. omega (arith, most, up 0 (suc k) d (omega arith) (omega (arith, lt))))))
found (x ∷ xs) name (suc i) up at =
    by (rank name x) refl (at.0 0 x (omega arith) (omega arith))
    (found xs name i (λ k j d le lt. up (suc k) (suc j) d (omega (arith, le)) (omega (arith, lt)))
    (λ k d from to. at.0 (suc k) d (omega arith) (omega (arith, to)), λ k d from to. at.1 (suc k) d (omega (arith, from)) (omega (arith, to))))
  where
    by : (o : Ordering) → rank name x ≡ o → is_lt o ≡ true → type_if_named (slice_get xs i) name ≡ component_type xs name → type_if_named (slice_get xs i) name ≡ (if bytes_eq x.name name then Some x.of else component_type xs name)
    by Less e less more = let other : bytes_eq x.name name ≡ false = same_name x.name name ∙ ap is_eq e in rw other more
    by Equal e less more = absurd (true≢false (sym less))
    by Greater e less more = absurd (true≢false (sym less))

pub found_at : (fields : List Field) (name : List ℕ) (i : ℕ) → AreAscending fields
    → IsPartitionPoint (λ f. is_below name f ≡ true) (λ f. is_below name f ≡ false) fields i → type_if_named (slice_get fields i) name ≡ component_type fields name
found_at fields name i up at = found fields name i (rises fields name up) at

-- ---- components

pub components_are : (its : Term) (fields : List Field) → components_of its ≡ Some fields → fields_of its ≡ fields
components_are (term.Record fs) fields e = same_Some fs fields e
components_are (term.Struct fs) fields e = same_Some fs fields e
components_are _ fields e = absurd (none-some fields e)
