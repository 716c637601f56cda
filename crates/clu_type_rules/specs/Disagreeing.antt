-- Demands that disagree with one before them in their list.
use Rattle.std.specs.Prelude.{◌≡◌, ℕ, zero, suc, ◌==◌, ◌&&◌, ◌||◌, not, Bool, true, false, List, [], ◌∷◌, fold, set, bytes_eq, cond, if◌then◌else◌, Option, Some, None}
use Rattle.std.specs.List.{list_any}
use Rattle.clu_types.specs.declared.term.TypeId.{TypeId}
use Rattle.clu_head.specs.declared.asked.Asked.{Asked}
use Rattle.clu_head.specs.declared.head.Demanded.{Demanded}
use Rattle.clu_head.specs.Asked.{demands_of}
use Rattle.clu_type_rules.specs.declared.disagreements.Operation.{Operation}
use Rattle.clu_type_rules.specs.contracts.disagreements.OperationPartialEq.TheImpl as operation

-- ---- of a list of demands

-- a type that is refused where it stands is no other one
abbrev pub are_other : Option TypeId → Option TypeId → Bool
are_other (Some a) (Some b) = not (a.0 == b.0)
are_other _ _ = false

-- the operation of one parameter is asked for with two types
abbrev pub disagrees : Demanded → Demanded → Bool
disagrees d e = (e.parameter == d.parameter && bytes_eq e.operation d.operation) && are_other e.wanted d.wanted

-- a demand that the node makes disagrees with one before it
abbrev pub disagrees_with : ℕ → List Demanded → List Demanded → Bool
disagrees_with n before [] = false
disagrees_with n before (d ∷ ds) = (d.node == n && list_any (disagrees d) before) || disagrees_with n (d ∷ before) ds

module _ (asked : Asked) where
  abbrev pub demands_in : ℕ → List Demanded
  demands_in clause = demands_of asked.demands.items asked.starts.items clause

  -- it does in the clause of one of the first so many nodes
  abbrev pub is_disagreeing : ℕ → ℕ → Bool
  is_disagreeing zero n = false
  is_disagreeing (suc clause) n = is_disagreeing clause n || disagrees_with n [] (demands_in clause)

-- ---- the same of what is noted one after the other, the latest first

abbrev pub same : Operation → Operation → Bool
same = (operation.ghosts).eq

-- a node asks for an operation with this type
pub record Note : Type 0 where
  pub operation : Operation
  pub wanted : TypeId
  pub node : ℕ

-- the type with which an operation was asked for, which now is asked for with this one; None if with several
abbrev pub seen_with : TypeId → Option (Option TypeId) → Option TypeId
seen_with wanted (Some (Some before)) = if before.0 == wanted.0 then Some wanted else None
seen_with wanted (Some None) = None
seen_with wanted None = Some wanted

abbrev pub is_other_than : TypeId → Option (Option TypeId) → Bool
is_other_than wanted (Some (Some before)) = not (before.0 == wanted.0)
is_other_than wanted (Some None) = true
is_other_than wanted None = false

abbrev pub seen_in : List Note → Operation → Option (Option TypeId)
seen_in [] its = None
seen_in (note ∷ before) its = cond (same note.operation its) (Some (seen_with note.wanted (seen_in before note.operation))) (seen_in before its)

abbrev pub marked : Bool → ℕ → List Bool → List Bool
marked true n bits = set bits n true
marked false n bits = bits

-- the bits, with those of the nodes that disagree
abbrev pub with_notes : List Note → List Bool → List Bool
with_notes [] bits = bits
with_notes (note ∷ before) bits = marked (is_other_than note.wanted (seen_in before note.operation)) note.node (with_notes before bits)

abbrev pub operation_of : Demanded → Operation
operation_of d = record { parameter = d.parameter; name = d.operation }

abbrev pub with_wanted : Demanded → Option TypeId → List Note → List Note
with_wanted d (Some wanted) before = record { operation = operation_of d; wanted = wanted; node = d.node } ∷ before
with_wanted d None before = before

abbrev pub with_demand : List Note → Demanded → List Note
with_demand before d = with_wanted d d.wanted before

-- the bits, with those of the clauses of the first so many nodes
abbrev pub with_clauses : Asked → ℕ → List Bool → List Bool
with_clauses asked zero bits = bits
with_clauses asked (suc clause) bits = with_notes (fold with_demand [] (demands_in asked clause)) (with_clauses asked clause bits)

-- ---- what is known after some notes, which began with these bits

pub record State : Type 0 where
  pub seen : Operation → Option (Option TypeId)
  pub bits : List Bool

abbrev pub state : (Operation → Option (Option TypeId)) → List Bool → State
state seen bits = record { seen = seen; bits = bits }

pub record AreNoted (start : List Bool) (notes : List Note) (its : State) : Type 0 where
  pub seen : (name : Operation) → its.seen name ≡ seen_in notes name
  pub bits : its.bits ≡ with_notes notes start

-- one step brings this to what was noted
abbrev pub Notes : (List Note → List Note) → State → State → Type 0
Notes more old new = (start : List Bool) (notes : List Note) → AreNoted start notes old → AreNoted start (more notes) new
