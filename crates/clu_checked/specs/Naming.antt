-- That names of modules are those that the definitions say that the modules of a file name.
use Rattle.std.specs.Prelude.{◌≡◌, List, map}
use Rattle.clu_tree.specs.declared.node.Node.{Node}
use Rattle.clu_syntax.specs.declared.round.Round.{Round}
use Rattle.clu_syntax.specs.Nodes.{file_of}
use Rattle.clu_syntax.specs.Rounds.{AreRounds}
use Rattle.clu_syntax.specs.Syntax.{Identifier}
use Rattle.clu_types.specs.declared.spec.Spec.{Spec}
use Rattle.clu_checking.specs.Files.{File}
use Rattle.clu_checking.specs.Named.{modules_named}
use Rattle.clu_checking.specs.Refusals.{checked_file}
use Rattle.clu_checking.specs.Specifications.{specification_told}

-- of each module, in the order of the text
abbrev pub named_by_each : File → List (List Identifier)
named_by_each f = map (modules_named f) (file_of f.nodes)

-- by what the definitions say of this file
pub record AreModulesNamed (nodes : List Node) (library : List Spec) (named : List (List Identifier)) : Type 0 where
  pub rounds : List Round
  pub surrounded : AreRounds nodes rounds
  pub are : named ≡ named_by_each (checked_file nodes rounds (map specification_told library))
