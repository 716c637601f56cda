-- Nodes of a tree by their kind: what is asked of parts that no recursion goes down to.
use Rattle.std.specs.Prelude.{ℕ, List, length}
use Rattle.clu_tree.specs.declared.node.Node.{Node}
use Rattle.clu_tree.specs.declared.node.NodeKind.{NodeKind}
use Rattle.clu_syntax.specs.Parts.{AreOf, IsOf}

module _ (nodes : List Node) where
  abbrev pub IsNode : NodeKind → ℕ → Type 0
  IsNode k n = IsOf nodes k (length nodes) n

  abbrev pub AreNodes : NodeKind → List ℕ → Type 0
  AreNodes k cs = AreOf nodes k (length nodes) cs
