-- The laws of words that are put and handed out, as they are stated.
use Rattle.std.proofs.Common.{◌≡◌, ℕ, ◌+◌, ◌*◌, suc, Bool, true, false, List, [], ◌∷◌, Some, bytes_eq, refl, sym, ◌∙◌, subst, arith, slice_set, if◌then◌else◌}
use Rattle.std.specs.Option.{option_map}
use Rattle.clu_types.specs.CluType.{Fields, no_fields, field_and}
use Rattle.clu_layout.specs.Objects.{Object, array_cell, record_cell, variant_cell}
use Rattle.clu_layout.specs.RecordOperations.{with_component}
use Rattle.clu_representation.specs.Layout.{Image, Layout, of_cell, with_word}
use Rattle.clu_representation.specs.Shown.{place_of_field, type_of_field}
use Rattle.clu_representation.specs.Held.{Components, distance}
use Rattle.clu_representation.specs.Kept.{ComponentPut, ElementPut, HandedOut, LowPut, OneAdded, OneChanged, VariantPut}
use Rattle.clu_representation.proofs.ArrayPuts.{array_put, element_mine, low_put}
use Rattle.clu_representation.proofs.Changes.{extends_owner, extends_store, owner_before, same_trans, extends_trans, store_other}
use Rattle.clu_representation.proofs.Heaps.{heap_added, heap_changed, heap_put}
use Rattle.clu_representation.proofs.OwnPuts.{behind, of_a_cell, record_put, value_word_mine, variant_put}

pub handed_out : HandedOut
handed_out map mine owner free = (
  extends_owner map mine owner free,
  λ c. record {
    at = refl;
    kind = refl;
    words = λ n whose. (owner_before (mine n) (owner n) (map.owner n) (of_cell c) whose (λ e. cc e) (λ m. sym whose ∙ free n m), refl);
  },
)

pub one_changed : OneChanged
one_changed image a b cells c cell e same h heap = heap_changed image a b cells c cell e same h heap

pub one_added : OneAdded
one_added image a b cells cell e same h heap = heap_added image a b cells cell e same h heap

-- the word of a component is the cell's
pub component_mine : (image : Image) (map : Layout) (c : ℕ) (s : List ℕ) (y : Object) (fs : Fields) (os ys : List Object) (at : ℕ) → Components image map c fs os at → with_component fs s y os ≡ Some ys →
    map.owner (at + 8 * place_of_field fs s) ≡ of_cell c
component_mine image map c s y no_fields os ys at h e = absurd (cc e)
component_mine image map c s y (field_and name u fs) [] ys at h e = absurd (cc e)
component_mine image map c s y (field_and name u fs) (x ∷ xs) ys at (h, more) e = by (bytes_eq name s) e (λ zs there. component_mine image map c s y fs xs zs (at + 8) more there)
  where
    by : (b : Bool) → (if b then Some (y ∷ xs) else option_map (λ (zs : List Object). x ∷ zs) (with_component fs s y xs)) ≡ Some ys →
        ((zs : List Object) → with_component fs s y xs ≡ Some zs → map.owner (at + 8 + 8 * place_of_field fs s) ≡ of_cell c) → map.owner (at + 8 * (if b then 0 else suc (place_of_field fs s))) ≡ of_cell c
    by true e again = subst (λ n. map.owner n ≡ of_cell c) (here at) h.whose
      where
        here : (at : ℕ) → at ≡ at + 8 * 0
        here at = omega arith
    by false e again =
        let (zs, there, same) = behind fs s y x ys xs (with_component fs s y xs) refl e in
        subst (λ n. map.owner n ≡ of_cell c) (further at (place_of_field fs s)) (again zs there)
      where
        further : (at n : ℕ) → at + 8 + 8 * n ≡ at + 8 * suc n
        further at n = omega arith

pub component_put : ComponentPut
component_put image map cells c fs os ys s y t v heap is e g shown =
    let h = heap c (record_cell fs os) is in
    let p = map.address c + 8 + 8 * place_of_field fs s in
    let mine = component_mine image map c s y fs os ys (map.address c + 8) h.2 e in
    heap_put image map cells c p v (record_cell fs ys) mine heap (record_put image map c p v mine s y t shown fs os ys h e g refl)

pub variant_changed : VariantPut
variant_changed image map cells c fs tag s o y t v heap is e shown =
    let h = heap c (variant_cell fs tag o) is in
    let a = map.address c in
    let n = place_of_field fs s in
    let first = with_word map a n in
    let mine = value_word_mine image map c (type_of_field fs tag) o (a + 8) h.2 in
    heap_changed image map (with_word first (a + 8) v) cells c (variant_cell fs s y)
    (extends_trans map first (with_word first (a + 8) v) (extends_store map a n (of_a_cell map c a h.1.whose)) (extends_store first (a + 8) v (of_a_cell first c (a + 8) mine)))
    (λ d k. same_trans d map first (with_word first (a + 8) v) (store_other map c d a n h.1.whose k) (store_other first c d (a + 8) v mine k))
    (variant_put image map c fs tag s o y t v h e shown) heap

pub element_put : ElementPut
element_put image map cells c a h i o v heap l shown =
    heap_put image map cells c (h.block + distance h.first i a.room) v (array_cell (record a { items = slice_set a.items i o }))
    (element_mine image map c a h i (omega (arith, l, h.enough))) heap (array_put image map c a h i v o l shown)

pub low_changed : LowPut
low_changed image map cells c a low v heap is n bounds =
    let h = heap c (array_cell a) is in
    heap_put image map cells c (map.address c) v (array_cell (record a { low = low })) h.holds_low.whose heap (low_put image map c a h low v n bounds)
