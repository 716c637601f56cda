-- A parent that is none of the tree declares nothing.
use Rattle.std.proofs.Common.{◌≡◌, ◌++◌, ◌≤◌, ℕ, List, length, Option, Some, sym}
use Rattle.std.proofs.lemmas.List.{append-nil}
use Rattle.std.proofs.lemmas.Option.{slice_get_past}
use Rattle.clu_tree.specs.declared.node.Node.{Node}
use Rattle.clu_tree.specs.declared.node.NodeKind.{NodeKind}
use Rattle.clu_syntax.specs.declared.round.Round.{Round}
use Rattle.clu_names.specs.declared.scopes.Declared.{Declared}
use Rattle.clu_names.specs.Scopes.{variable_of, node_at}

pub absent : (list : List Declared) (n : ℕ) (child : NodeKind) (round : Round) (nodes : List Node) (parent : Option ℕ) (p : ℕ) → parent ≡ Some p → length nodes ≤ p → list ≡ list ++ variable_of n child round parent (node_at nodes parent)
absent list n child round nodes parent p is past = rw is (rw (slice_get_past nodes p past) (sym (append-nil list)))
