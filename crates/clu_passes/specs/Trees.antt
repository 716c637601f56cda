-- The files of trees.
use Rattle.std.specs.Prelude.{◌||◌, Bool, true}
use Rattle.clu_tree.specs.declared.node.NodeKind.{NodeKind}
use Rattle.clu_tree.specs.declared.node.NodeKind.TheVariants as kind
use Rattle.clu_tree.specs.Nodes.{IsTree}
use Rattle.clu_parser.specs.Order.{IsPostOrder}
use Rattle.clu_parser.specs.Shape.{HaveForms}
use Rattle.clu_syntax.specs.Kinds.{is_expression, is_type}
use Rattle.clu_syntax.specs.Rounds.{AreRounds}
use Rattle.clu_checking.specs.Files.{File}

-- the nodes are those of a tree of the grammar, and the surroundings those of the nodes
pub record IsFileOfTree (f : File) : Type 0 where
  pub shaped : HaveForms f.nodes
  pub ordered : IsPostOrder f.nodes
  pub tree : IsTree f.nodes
  pub surrounded : AreRounds f.nodes f.rounds

-- which kinds of nodes stand below an Equate
abbrev pub is_of_constant : NodeKind → Bool
is_of_constant kind.FieldE = true
is_of_constant kind.FieldT = true
is_of_constant kind.Results = true
is_of_constant kind.Signals = true
is_of_constant kind.Exc = true
is_of_constant kind.TypeSet = true
is_of_constant kind.Oper = true
is_of_constant kind.Equate = true
is_of_constant k = is_expression k || is_type k
