-- A tagcase statement finds a tag of its type, and the object of that tag.
use Rattle.std.proofs.Common.{◌≡◌, ℕ, Bool, true, false, List, Option, None, Some, refl, sym, ap, subst}
use Rattle.std.specs.Prelude.{slice_get}
use Rattle.std.specs.Option.{option_map}
use Rattle.std.proofs.lemmas.Bool.{false≢true}
use Rattle.clu_types.specs.CluType.{CluType, null_type, oneof_of, variant_of, Fields}
use Rattle.clu_layout.specs.Objects.{Routine, Object, reference, Cell, array_cell, record_cell, variant_cell, cell_type, own_type}
use Rattle.clu_layout.specs.SameType.{fits}
use Rattle.clu_layout.specs.Openers.{variant_in, tagged_in}
use Rattle.clu_layout.proofs.CellLaws.{Longer, longer_refl}
use Rattle.clu_meaning.specs.Programs.{Program}
use Rattle.clu_meaning.specs.Computations.{Ending, Computation, needed, sees_world}
use Rattle.clu_meaning.specs.Calls.{Round}
use Rattle.clu_meaning.specs.Typed.{type_of_selector, fits_in, IsTyped, EachFits}
use Rattle.clu_meaning.proofs.TypedFacts.{typed_on}
use Rattle.clu_meaning.proofs.FittingLaws.{cell_found}
use Rattle.laws_sound.specs.WellTyped.{tags_of}
use Rattle.laws_sound.proofs.Safe.{Sound, well_from, sound_needed, IsOf}
use Rattle.laws_sound.proofs.Shapes.{included_is, fields_in, oneof_is, reference_is}

abbrev type_in : Option CluType → CluType
type_in (Some t) = t
type_in None = null_type

abbrev is_variant_type : CluType → Bool
is_variant_type (variant_of fs) = true
is_variant_type _ = false

abbrev fields_or : Fields → Option Fields → Fields
fields_or fs (Some gs) = gs
fields_or fs None = fs

none_some : {A : Type 0} {x : A} → None ≡ Some x → ⊥
none_some e = subst is_none e tt
  where
    is_none : {A : Type 0} → Option A → Type 0
    is_none None = Unit {0}
    is_none (Some x) = ⊥

there : (found : Option CluType) (x : Object) → fits_in found x ≡ true → (t : CluType) × (found ≡ Some t) × (fits (own_type x) t ≡ true)
there (Some t) x h = (t, refl, h)
there None x h = absurd (false≢true h)

module _ (program : Program) (lawful : Routine → Type 0) where
  -- the tag of an object, and what it holds
  pub record Tagged (cells : List Cell) (fs : Fields) (o : Object) : Type 0 where
    pub tag : List ℕ
    pub object : Object
    pub found : tagged_in cells o ≡ Some (tag, object)
    pub typed : IsTyped program lawful cells object
    pub fit : fits_in (type_of_selector fs tag) object ≡ true

  variant_tagged : (cells : List Cell) (fs : Fields) (c : ℕ) → EachFits program lawful cells cells → (cell : Option Cell) → slice_get cells c ≡ cell → option_map cell_type cell ≡ Some (variant_of fs) → Tagged cells fs (reference (variant_of fs) c)
  variant_tagged cells fs c e (Some (variant_cell gs tag x)) is k =
      let fit = cell_found program lawful cells cells c (variant_cell gs tag x) e is in
      record { tag = tag; object = x; found = ap variant_in is; typed = fit.0; fit = subst (λ hs. fits_in (type_of_selector hs tag) x ≡ true) (ap (λ t. fields_in (type_in t)) k) fit.1 }
  variant_tagged cells fs c e (Some (array_cell a)) is k = absurd (false≢true (ap (λ t. is_variant_type (type_in t)) k))
  variant_tagged cells fs c e (Some (record_cell gs xs)) is k = absurd (false≢true (ap (λ t. is_variant_type (type_in t)) k))
  variant_tagged cells fs c e None is k = absurd (none_some k)

  tagged_of : (cells : List Cell) → EachFits program lawful cells cells → (t : CluType) (fs : Fields) (o : Object) → tags_of t ≡ Some fs → IsOf program lawful t cells o → Tagged cells fs o
  tagged_of cells e (oneof_of gs) fs o is h =
      let found = oneof_is program lawful cells o gs h.0 (included_is (own_type o) (oneof_of gs) refl refl h.1) in
      let typed = subst (IsTyped program lawful cells) found.2 h.0 in
      let same : gs ≡ fs = ap (fields_or gs) is in
      record { tag = found.0; object = found.1; found = ap (tagged_in cells) found.2; typed = typed.0; fit = subst (λ hs. fits_in (type_of_selector hs found.0) found.1 ≡ true) same typed.1 }
  tagged_of cells e (variant_of gs) fs o is h =
      let found = reference_is program lawful cells o (variant_of gs) refl h.0 (included_is (own_type o) (variant_of gs) refl refl h.1) in
      let same : gs ≡ fs = ap (fields_or gs) is in
      subst (λ hs. Tagged cells hs o) same (subst (Tagged cells gs) (sym found.1) (variant_tagged cells gs found.0 e (slice_get cells found.0) refl found.2))
  tagged_of cells e _ fs o is h = absurd (none_some is)

  pub sound_tagged : (round : Round) (base : List Cell) {A : Type 0} (P : List Cell → A → Type 0) (Q : List Cell → Ending → Type 0) (t : CluType) (fs : Fields) (o : Object) (f : List ℕ × Object → Computation A) → tags_of t ≡ Some fs → IsOf program lawful t base o →
      ((cells : List Cell) → Longer base cells → (tag : List ℕ) (x : Object) (u : CluType) → type_of_selector fs tag ≡ Some u → IsTyped program lawful cells x → fits (own_type x) u ≡ true → Sound program lawful round cells P Q (f (tag, x))) →
      Sound program lawful round base P Q (sees_world (λ w. needed (tagged_in w.cells o) f))
  unfolding sees_world
  sound_tagged round base P Q t fs o f is h k = record {
    at = λ turns st ts l.
        let found = tagged_of st.world.cells ts.cells t fs o is (typed_on program lawful base st.world.cells l o h.0, h.1) in
        let type = there (type_of_selector fs found.tag) found.object found.fit in
        well_from program lawful round P Q base st.world.cells _ l ((sound_needed program lawful round st.world.cells P Q (tagged_in st.world.cells o) f (found.tag, found.object) found.found
        (k st.world.cells l found.tag found.object type.0 type.1 found.typed type.2)).at turns st ts (longer_refl st.world.cells));
  }
