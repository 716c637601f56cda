-- The parts of routines that are asked for at their statements.
use Rattle.std.specs.Prelude.{ℕ, zero, suc, if◌then◌else◌, Bool, true, false, List, [], ◌∷◌, ◌++◌, slice_get, Option, Some, None}
use Rattle.clu_tree.specs.declared.node.Node.{Node}
use Rattle.clu_tree.specs.declared.node.NodeKind.{NodeKind}
use Rattle.clu_tree.specs.declared.node.NodeKind.TheVariants as kind
use Rattle.clu_syntax.specs.declared.words.RoutineKind.{RoutineKind}
use Rattle.clu_syntax.specs.declared.words.RoutineKind.TheVariants as routine_kind
use Rattle.clu_syntax.specs.Items.{Item}
use Rattle.clu_syntax.specs.Kinds.{kind_at}
use Rattle.clu_syntax.specs.Nodes.{item_with}
use Rattle.clu_syntax.specs.Splits.{is_of, children_of}
use Rattle.clu_head.specs.There.{is_there}
use Rattle.clu_bindings.specs.Tables.{optional}
use Rattle.clu_type_rules.specs.declared.routines.Parts.{Parts}

abbrev pub is_procedure : RoutineKind → Bool
is_procedure routine_kind.Procedure = true
is_procedure routine_kind.Iterator = false

-- the first of the children that is of this kind
abbrev pub child_of_kind : List Node → NodeKind → List ℕ → Option ℕ
child_of_kind nodes k [] = None
child_of_kind nodes k (c ∷ cs) = if is_of k (kind_at nodes c) then Some c else child_of_kind nodes k cs

module _ (items : ℕ → Item) (nodes : List Node) where
  abbrev pub parts_of : ℕ → Parts
  parts_of n = record {
    is_procedure = is_procedure (item_with items nodes n (slice_get nodes n)).routine.kind;
    results = child_of_kind nodes kind.Results (children_of (slice_get nodes n));
    signals = child_of_kind nodes kind.Signals (children_of (slice_get nodes n));
  }

  -- of a Routine
  abbrev pub parts_at : ℕ → Option Parts
  parts_at n = if is_there kind.Routine (slice_get nodes n) then Some (parts_of n) else None

  -- those of the first n nodes
  abbrev pub parts_to : ℕ → List (Option Parts)
  parts_to zero = []
  parts_to (suc n) = parts_to n ++ parts_at n ∷ []

-- what a table of them has of a routine
abbrev pub parts_in : List (Option Parts) → Option ℕ → Option Parts
parts_in table (Some routine) = optional (slice_get table routine)
parts_in table None = None

-- outside of a routine nothing is yielded either
abbrev pub is_in_procedure : Option Parts → Bool
is_in_procedure (Some parts) = parts.is_procedure
is_in_procedure None = true
