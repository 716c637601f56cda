-- Needs over the numbers of an arena, and what was found of them.
use Rattle.std.specs.Prelude.{◌≡◌, ℕ, ◌<◌, ◌≤◌, List, [], ◌∷◌, ◌++◌, map, length, slice_get, Contains, Option, Some, None}
use Rattle.clu_types.specs.CluType.{CluType}
use Rattle.clu_types.specs.Arena.{type_at, types_of}
use Rattle.clu_types.specs.declared.spec.Spec.{Spec}
use Rattle.clu_types.specs.declared.term.Actual.{Actual}
use Rattle.clu_types.specs.declared.term.TypeId.{TypeId}
use Rattle.clu_types.specs.declared.term.Term.{Term}
use Rattle.clu_types.specs.declared.term.Term.TheVariants as term
use Rattle.clu_builtin.specs.Operation.{Needed}
use Rattle.clu_builtin.specs.declared.needs.Need.{Need}
use Rattle.clu_specs.specs.Seen.{Demanded}
use Rattle.clu_demands.specs.Meeting.{Asks, IsAnswered, IsClosed}
use Rattle.clu_demands.specs.declared.needs.Asked.{Asked}
use Rattle.clu_demands.specs.declared.needs.Instance.{Instance}

-- ---- needs by number, and as what they are

abbrev pub need_seen : List CluType → TypeId → List ℕ → TypeId → Needed
need_seen types of op wanted = record { of = type_at types of; op = op; wanted = type_at types wanted }

abbrev pub asked_seen : List CluType → Asked → Needed
asked_seen types a = need_seen types a.of a.op a.wanted

abbrev pub all_seen : List CluType → List Asked → List Needed
all_seen types [] = []
all_seen types (a ∷ asked) = asked_seen types a ∷ all_seen types asked

abbrev pub IsBelow : ℕ → Asked → Type 0
IsBelow n a = (a.of.0 < n) × (a.wanted.0 < n)

abbrev pub AreBelowAll : ℕ → List Asked → Type 0
AreBelowAll n [] = Unit {0}
AreBelowAll n (a ∷ asked) = IsBelow n a × AreBelowAll n asked

abbrev pub AreBelowIf : ℕ → Option (List Asked) → Type 0
AreBelowIf n None = Unit {0}
AreBelowIf n (Some asked) = AreBelowAll n asked

abbrev pub IsBelowIf : ℕ → Option Asked → Type 0
IsBelowIf n None = Unit {0}
IsBelowIf n (Some a) = IsBelow n a

-- the need of a built-in operation
abbrev pub as_asked : Need → Asked
as_asked n = record { of = n.of; op = n.op; wanted = n.wanted }

-- ---- what a search for what a need asks answers: these, or that there are none such

abbrev pub Answers : (List Needed → Type 0) → List CluType → Option (List Asked) → Type 0
Answers P types None = (asks : List Needed) → P asks → ⊥
Answers P types (Some made) = P (all_seen types made)

abbrev pub seen_if : List CluType → Option (List Asked) → Option (List Needed)
seen_if types None = None
seen_if types (Some made) = Some (all_seen types made)

abbrev pub asked_if : List CluType → Option Asked → Option Needed
asked_if types None = None
asked_if types (Some a) = Some (asked_seen types a)

abbrev pub parameter_of : Term → Option ℕ
parameter_of (term.Param n) = Some n
parameter_of _ = None

abbrev pub instance_with : List ℕ → List Actual → Instance
instance_with name actuals = record { name = name; actuals = actuals }

abbrev pub instance_of : Term → Option Instance
instance_of (term.Cluster name actuals) = Some (instance_with name actuals)
instance_of _ = None

-- the term of a number has none such
abbrev pub HasNone : {X : Type 0} → (Term → Option X) → List Term → TypeId → Type 0
HasNone f terms id = (t : Term) → slice_get terms id.0 ≡ Some t → f t ≡ None

-- ---- needs that were found, of which the first n were asked

abbrev pub IsFrontOf : List Asked → List Asked → Type 0
IsFrontOf front whole = (more : List Asked) × (whole ≡ front ++ more)

-- a list with others at its end, but for those that it has
pub record HasAdded (old added new : List Asked) : Type 0 where
  pub front : IsFrontOf old new
  pub here : (a : Asked) → Contains added a → Contains new a
  pub from : (k : ℕ) (a : Asked) → length old ≤ k → slice_get new k ≡ Some a → Contains added a

-- the list has what was found
abbrev pub HasFound : Option (List Asked) → List Asked → List Asked → Type 0
HasFound None old new = ⊥
HasFound (Some asked) old new = HasAdded old asked new

-- each of the first n is answered by those that were found
abbrev pub AreAnswered : List Demanded → List Spec → List CluType → List Asked → ℕ → Type 0
AreAnswered given specs types found n = (k : ℕ) (a : Asked) → k < n → slice_get found k ≡ Some a → IsAnswered given specs (all_seen types found) (asked_seen types a)

-- those from a place on are among these
abbrev pub HasFrom : List CluType → List Asked → ℕ → List Needed → Type 0
HasFrom types found before needs = (k : ℕ) (a : Asked) → before ≤ k → slice_get found k ≡ Some a → Contains needs (asked_seen types a)

-- those from a place on are not all among needs of which each is answered by them
abbrev pub AreNotMet : List Demanded → List Spec → List CluType → List Asked → ℕ → Type 0
AreNotMet given specs types found before = (needs : List Needed) → IsClosed given specs needs → HasFrom types found before needs → ⊥

-- the n-th asks these, which were added
pub record HasAsked (given : List Demanded) (specs : List Spec) (old new : List Term) (found newer : List Asked) (n : ℕ) : Type 0 where
  pub need : Asked
  pub at : slice_get found n ≡ Some need
  pub asked : List Asked
  pub asks : Asks given specs (asked_seen (types_of old) need) (all_seen (types_of new) asked)
  pub within : AreBelowAll (length new) asked
  pub added : HasAdded found asked newer

-- the n-th has no operation
abbrev pub AsksNone : List Demanded → List Spec → List CluType → List Asked → ℕ → Type 0
AsksNone given specs types found n = (need : Asked) → slice_get found n ≡ Some need → (asks : List Needed) → Asks given specs (asked_seen types need) asks → ⊥
