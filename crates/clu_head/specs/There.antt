-- Nodes that are there.
use Rattle.std.specs.Prelude.{Bool, false, Option, Some, None}
use Rattle.clu_tree.specs.declared.node.Node.{Node}
use Rattle.clu_tree.specs.declared.node.NodeKind.{NodeKind}
use Rattle.clu_syntax.specs.Splits.{is_of}

-- the node is there and of this kind
abbrev pub is_there : NodeKind → Option Node → Bool
is_there k (Some node) = is_of k node.kind
is_there k None = false
