-- The rules on statements that leave a loop or an iterator's turn, over the tables that they read: V28 NotInLoop,
-- V29 NotInIterator.
use Rattle.std.specs.Prelude.{ℕ, ◌&&◌, not, Bool, true, false, List, slice_get, Option}
use Rattle.clu_tree.specs.declared.node.Node.{Node}
use Rattle.clu_tree.specs.declared.node.NodeKind.{NodeKind}
use Rattle.clu_tree.specs.declared.node.NodeKind.TheVariants as kind
use Rattle.clu_syntax.specs.declared.round.Round.{Round}
use Rattle.clu_syntax.specs.Kinds.{kind_at}
use Rattle.clu_syntax.specs.Rounds.{round_at}
use Rattle.clu_head.specs.There.{is_there}
use Rattle.clu_type_rules.specs.declared.routines.Parts.{Parts}
use Rattle.clu_type_rules.specs.Routines.{parts_in, is_in_procedure}

abbrev pub leaves_turn : NodeKind → Bool
leaves_turn kind.Break = true
leaves_turn kind.Continue = true
leaves_turn _ = false

-- V28: break or continue outside a loop of the routine
abbrev pub is_outside_loop : List Node → List Round → ℕ → Bool
is_outside_loop nodes rounds n = leaves_turn (kind_at nodes n) && not (round_at rounds n).in_loop

-- V29: yield outside an iterator, by the parts of routines
abbrev pub is_outside_iterator : List Node → List Round → List (Option Parts) → ℕ → Bool
is_outside_iterator nodes rounds parts n = is_there kind.Yield (slice_get nodes n) && is_in_procedure (parts_in parts (round_at rounds n).routine)
