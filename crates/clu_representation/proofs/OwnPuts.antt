-- A word is put into a record or a variant, at its own place: then the cell holds it.
use Rattle.std.proofs.Common.{◌≡◌, ℕ, suc, ◌+◌, ◌*◌, ◌<◌, Bool, true, false, List, [], ◌∷◌, Option, None, Some, refl, sym, ap, ◌∙◌, subst, arith, ◌≢◌, if◌then◌else◌, bytes_eq}
use Rattle.std.specs.Option.{option_map}
use Rattle.clu_types.specs.CluType.{CluType, Fields, no_fields, field_and}
use Rattle.clu_layout.specs.Objects.{Object, record_cell, variant_cell}
use Rattle.clu_layout.specs.RecordOperations.{with_component}
use Rattle.clu_representation.specs.Layout.{Image, Layout, fixed, of_cell, with_word}
use Rattle.clu_representation.specs.Shown.{At, place_of_field, type_of_field}
use Rattle.clu_representation.specs.Held.{Cellular, CellularIf, Components, Holds, Own}
use Rattle.clu_representation.proofs.Changes.{cellular_on, extends_store, put_here, put_there}
use Rattle.clu_representation.proofs.Lists.{some_same}
use Rattle.clu_representation.proofs.StaysShown.{at_on}

pub of_a_cell : (map : Layout) (c p : ℕ) → map.owner p ≡ of_cell c → map.owner p ≢ fixed
of_a_cell map c p e f = absurd (cc (sym e ∙ f))

-- the word that is put shows the object
pub put_shows : (image : Image) (map : Layout) (c p v at : ℕ) (t : CluType) (o : Object) → map.owner p ≡ of_cell c → at ≡ p → At image map t o v → Cellular image (with_word map p v) c t o at
put_shows image map c p v at t o mine e h =
    let put_it : Cellular image (with_word map p v) c t o p = record {
      whose = mine;
      shown = subst (λ w. At image (with_word map p v) t o w) (sym (put_here map.word p v)) (at_on image map (with_word map p v) (extends_store map p v (of_a_cell map c p mine)) t o v h);
    } in
    subst (λ n. Cellular image (with_word map p v) c t o n) (sym e) put_it

-- words elsewhere stay
pub put_beside : (image : Image) (map : Layout) (c p v at : ℕ) (t : CluType) (o : Object) → map.owner p ≡ of_cell c → at ≢ p → Cellular image map c t o at → Cellular image (with_word map p v) c t o at
put_beside image map c p v at t o mine k h =
    cellular_on image map (with_word map p v) (extends_store map p v (of_a_cell map c p mine)) c t o at refl (put_there map.word p v at k) h

own_beside : (map : Layout) (c p v at value : ℕ) → at ≢ p → Own map c at value → Own (with_word map p v) c at value
own_beside map c p v at value k h = record { whose = h.whose; is = put_there map.word p v at k ∙ h.is }

pub own_put : (map : Layout) (c p v : ℕ) → map.owner p ≡ of_cell c → Own (with_word map p v) c p v
own_put map c p v mine = record { whose = mine; is = put_here map.word p v }

components_beside : (image : Image) (map : Layout) (c p v : ℕ) → map.owner p ≡ of_cell c → (fs : Fields) (os : List Object) (at : ℕ) → p < at → Components image map c fs os at → Components image (with_word map p v) c fs os at
components_beside image map c p v mine no_fields [] at l h = tt
components_beside image map c p v mine (field_and s t fs) (o ∷ os) at l (h, more) =
    (put_beside image map c p v at t o mine (λ e. omega (arith, e, l)) h, components_beside image map c p v mine fs os (at + 8) (omega (arith, l)) more)
components_beside image map c p v mine no_fields (o ∷ os) at l h = h
components_beside image map c p v mine (field_and s t fs) [] at l h = h

-- ---- a component of a record

-- the components after one that stays
pub behind : (fs : Fields) (s : List ℕ) (y x : Object) (ys xs : List Object) (r : Option (List Object)) → with_component fs s y xs ≡ r → option_map (λ (zs : List Object). x ∷ zs) (with_component fs s y xs) ≡ Some ys →
    (zs : List Object) × (with_component fs s y xs ≡ Some zs) × (x ∷ zs ≡ ys)
behind fs s y x ys xs None e g = absurd (cc (sym (ap (λ r. option_map (λ (zs : List Object). x ∷ zs) r) e) ∙ g))
behind fs s y x ys xs (Some rs) e g = (rs, e, some_same (x ∷ rs) ys (sym (ap (λ r. option_map (λ (zs : List Object). x ∷ zs) r) e) ∙ g))

module _ (image : Image) (map : Layout) (c p v : ℕ) (mine : map.owner p ≡ of_cell c) (s : List ℕ) (y : Object) (t : CluType) (shown : At image map t y v) where
  pub put_component : (fs : Fields) (os ys : List Object) (at : ℕ) → Components image map c fs os at → with_component fs s y os ≡ Some ys → type_of_field fs s ≡ Some t → p ≡ at + 8 * place_of_field fs s →
      Components image (with_word map p v) c fs ys at
  put_component no_fields os ys at h e g q = absurd (cc g)
  put_component (field_and name u fs) [] ys at h e g q = absurd (cc e)
  put_component (field_and name u fs) (x ∷ xs) ys at (h, more) e g q = by (bytes_eq name s) e g q (λ zs there g q. put_component fs xs zs (at + 8) more there g q)
    where
      by : (b : Bool) → (if b then Some (y ∷ xs) else option_map (λ (zs : List Object). x ∷ zs) (with_component fs s y xs)) ≡ Some ys → (if b then Some u else type_of_field fs s) ≡ Some t →
          p ≡ at + 8 * (if b then 0 else suc (place_of_field fs s)) →
          ((zs : List Object) → with_component fs s y xs ≡ Some zs → type_of_field fs s ≡ Some t → p ≡ at + 8 + 8 * place_of_field fs s → Components image (with_word map p v) c fs zs (at + 8)) →
          Components image (with_word map p v) c (field_and name u fs) ys at
      by true e g q again = subst (λ zs. Components image (with_word map p v) c (field_and name u fs) zs at) (some_same (y ∷ xs) ys e) (
        subst (λ z. Cellular image (with_word map p v) c z y at) (sym (some_same u t g)) (put_shows image map c p v at t y mine (omega (arith, q)) shown),
        components_beside image map c p v mine fs xs (at + 8) (omega (arith, q)) more,
      )
      by false e g q again =
          let (zs, there, same) = behind fs s y x ys xs (with_component fs s y xs) refl e in
          subst (λ os. Components image (with_word map p v) c (field_and name u fs) os at) same
          (put_beside image map c p v at u x mine (λ k. omega (arith, q, k)) h, again zs there g (omega (arith, q)))

  -- the record with another component
  pub record_put : (fs : Fields) (os ys : List Object) → Holds image map c (record_cell fs os) → with_component fs s y os ≡ Some ys → type_of_field fs s ≡ Some t → p ≡ map.address c + 8 + 8 * place_of_field fs s →
      Holds image (with_word map p v) c (record_cell fs ys)
  record_put fs os ys (k, own, h) e g q = (k, own, put_component fs os ys (map.address c + 8) h e g q)

-- ---- the tag and the value of a variant

pub value_word_mine : (image : Image) (map : Layout) (c : ℕ) (t : Option CluType) (o : Object) (at : ℕ) → CellularIf image map c t o at → map.owner at ≡ of_cell c
value_word_mine image map c None o at h = absurd h
value_word_mine image map c (Some t) o at h = h.whose

pub variant_put : (image : Image) (map : Layout) (c : ℕ) (fs : Fields) (tag s : List ℕ) (o y : Object) (t : CluType) (v : ℕ) →
    Holds image map c (variant_cell fs tag o) → type_of_field fs s ≡ Some t → At image map t y v →
    Holds image (with_word (with_word map (map.address c) (place_of_field fs s)) (map.address c + 8) v) c (variant_cell fs s y)
variant_put image map c fs tag s o y t v (k, own, h) e shown =
    let a = map.address c in
    let n = place_of_field fs s in
    let first = with_word map a n in
    let mine = value_word_mine image map c (type_of_field fs tag) o (a + 8) h in (
      k,
      own_beside first c (a + 8) v a n (λ e. omega (arith, e)) (own_put map c a n own.whose),
      subst (λ u. CellularIf image (with_word first (a + 8) v) c u y (a + 8)) (sym e)
          (put_shows image first c (a + 8) v (a + 8) t y mine refl (at_on image map first (extends_store map a n (of_a_cell map c a own.whose)) t y v shown)),
    )
