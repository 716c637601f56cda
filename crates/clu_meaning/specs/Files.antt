-- Which file a tree is: its modules by the syntax, and its declarations by the scopes of names.
use Rattle.std.specs.Prelude.{◌≡◌, List}
use Rattle.clu_tree.specs.declared.node.Node.{Node}
use Rattle.clu_syntax.specs.declared.round.Round.{Round}
use Rattle.clu_syntax.specs.Nodes.{file_of}
use Rattle.clu_syntax.specs.Rounds.{AreRounds}
use Rattle.clu_names.specs.Scopes.{declarations}
use Rattle.clu_meaning.specs.Resolving.{File}

pub record IsFile (nodes : List Node) (file : File) : Type 0 where
  -- what surrounds each node
  pub rounds : List Round
  pub are_rounds : AreRounds nodes rounds
  pub declared : file.declarations ≡ declarations nodes rounds
  pub modules : file.modules ≡ file_of nodes
