-- What the nodes of a file ask, with the types that are wanted, as the table of it tells; and what is to be known of the types of Opers
-- for that.
use Rattle.std.specs.Prelude.{◌≡◌, ℕ, true, List, map, slice_get, Some, None}
use Rattle.clu_tree.specs.declared.node.Node.{Node}
use Rattle.clu_tree.specs.declared.node.NodeKind.TheVariants as kind
use Rattle.clu_types.specs.CluType.{CluType}
use Rattle.clu_syntax.specs.Splits.{child}
use Rattle.clu_checking.specs.Files.{File, is_refused, kind_in}
use Rattle.clu_settle.specs.Lists.{type_id, value_of}
use Rattle.clu_settle.specs.declared.value.Value.{Value}
use Rattle.clu_head.specs.Asked.{demands_of}
use Rattle.clu_head.specs.Refused.{grows_in}
use Rattle.clu_head.specs.declared.asked.Asked.{Asked}
use Rattle.clu_passes.specs.Demands.{asked_by}
use Rattle.clu_passes.specs.Told.{demand_told}

-- by a Routine and a Cluster with their where clauses, and by a TypeSet of its own variable
abbrev pub TellDemands : File → List CluType → Asked → Type 0
TellDemands f types asked = (c : ℕ) → map (demand_told types) (demands_of asked.demands.items asked.starts.items c) ≡ asked_by f (kind_in f c) c

-- so many refused nodes before each number say whether the type of an Oper is refused, and what is lost of it is
abbrev pub AreOpersCounted : File → List ℕ → Type 0
AreOpersCounted f counts = (c : ℕ) (node : Node) → slice_get f.nodes c ≡ Some node → node.kind ≡ kind.Oper → is_refused f (child 0 node) ≡ grows_in counts (slice_get f.rounds (child 0 node)) (child 0 node)

abbrev pub AreOpersLost : File → List Value → Type 0
AreOpersLost f values = (c : ℕ) (node : Node) → slice_get f.nodes c ≡ Some node → node.kind ≡ kind.Oper → type_id (value_of values (child 0 node)) ≡ None → is_refused f (child 0 node) ≡ true
