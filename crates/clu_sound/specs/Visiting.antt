-- How types and their parts are gone over, and what holds of them.
use Rattle.std.specs.Prelude.{◌≡◌, ◌↔◌, ◌<◌, Bool, IsTrue, List, [], ◌∷◌, map, find, length, slice_get, Option, Some, None}
use Rattle.std.specs.Str.{bytes_eq}
use Rattle.clu_types.specs.CluType.{CluType, cluster_of}
use Rattle.clu_types.specs.Arena.{type_at, type_of, types_of, PartsBelow}
use Rattle.clu_types.specs.declared.spec.Demand.{Demand}
use Rattle.clu_types.specs.declared.spec.Form.{Form}
use Rattle.clu_types.specs.declared.spec.Form.TheVariants as form
use Rattle.clu_types.specs.declared.spec.Spec.{Spec}
use Rattle.clu_types.specs.declared.term.TypeId.{TypeId}
use Rattle.clu_types.specs.declared.term.Term.{Term}
use Rattle.clu_types.specs.declared.term.Term.TheVariants as term
use Rattle.clu_specs.specs.Seen.{Demanded, demand_seen}
use Rattle.clu_demands.specs.Asking.{asked_seen, all_seen, AreBelowAll}
use Rattle.clu_demands.specs.Meeting.{Meets, IsClosed}
use Rattle.clu_sound.specs.Parts.{with_parts}
use Rattle.clu_sound.specs.Sound.{IsInstanceMet, IsTypeMet}
use Rattle.clu_demands.specs.declared.needs.Asked.{Asked}

-- the needs of a list are of the arena, and were met before, with what is given in an arena from which it grew
abbrev pub HoldsMet : List Demand → List Spec → List Term → List Term → List Asked → Type 0
HoldsMet given specs start now met = AreBelowAll (length now) met × IsClosed (map (demand_seen (types_of start)) given) specs (all_seen (types_of now) met)

-- all of these needs are met
abbrev pub AreAllMet : List Demanded → List Spec → List CluType → List Asked → Type 0
AreAllMet given specs types [] = Unit {0}
AreAllMet given specs types (a ∷ asked) = Meets given specs (asked_seen types a) × AreAllMet given specs types asked

-- what a type itself demands is met, without its parts
abbrev pub IsOwnMet : List Demanded → List Spec → CluType → Type 0
IsOwnMet given specs (cluster_of name actuals) = IsInstanceMet given specs actuals (find (λ s. bytes_eq s.name name) specs)
IsOwnMet given specs _ = Unit {0}

-- all of these types are met, with their parts
abbrev pub AreIdsMet : List Demanded → List Spec → List CluType → List TypeId → Type 0
AreIdsMet given specs types [] = Unit {0}
AreIdsMet given specs types (id ∷ ids) = IsTypeMet given specs (type_at types id) × AreIdsMet given specs types ids

-- a type was looked at: whether it itself is met, and its parts were added
pub record HasVisited (given : List Demanded) (specs : List Spec) (terms : List Term) (old new : List TypeId) (id : TypeId) (met : Bool) : Type 0 where
  pub own : IsTrue met ↔ IsOwnMet given specs (type_at (types_of terms) id)
  pub shape : Term
  pub at : slice_get terms id.0 ≡ Some shape
  pub parts : PartsBelow id.0 shape
  pub of_type : type_at (types_of terms) id ≡ type_of (types_of terms) shape
  pub added : new ≡ with_parts old shape

-- a cluster demands nothing of its actual parameters
abbrev pub FormDemandsNothing : Form → Type 0
FormDemandsNothing (form.Cluster demands ops) = demands ≡ []
FormDemandsNothing (form.Routine o) = Unit {0}

abbrev pub DemandsNothing : Option Spec → Type 0
DemandsNothing None = Unit {0}
DemandsNothing (Some s) = FormDemandsNothing s.form

abbrev pub TermDemandsNothing : List Spec → Term → Type 0
TermDemandsNothing specs (term.Cluster name actuals) = DemandsNothing (find (λ s. bytes_eq s.name name) specs)
TermDemandsNothing specs _ = Unit {0}

-- each type of an arena is of a term whose parts come before it, and demands nothing itself
abbrev pub NothingDemanded : List Spec → List Term → Type 0
NothingDemanded specs terms =
    (id : TypeId) → id.0 < length terms → (t : Term) × (slice_get terms id.0 ≡ Some t) × PartsBelow id.0 t × (type_at (types_of terms) id ≡ type_of (types_of terms) t) × TermDemandsNothing specs t
