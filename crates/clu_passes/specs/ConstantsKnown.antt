-- What is known of a file at the nodes that stand in equates, types and expressions, so that the rules over tables are right there.
use Rattle.std.specs.Prelude.{ℕ, List}
use Rattle.clu_parser.specs.Trees.{Text}
use Rattle.clu_checking.specs.Specifications.{Specification}
use Rattle.clu_checking.specs.Files.{File, scope_in}
use Rattle.clu_type_rules.specs.declared.known.Known.{Known}
use Rattle.clu_passes.specs.ConstantTables.{file_with}
use Rattle.clu_passes.specs.FactTables.{AreOwnTypes}
use Rattle.clu_passes.specs.Lost.{lost}
use Rattle.clu_passes.specs.Made.{IsWhole}
use Rattle.clu_passes.specs.RulesKnown.{AreRulesKnown}

-- the file that is known, by its own scope
abbrev pub file_of : Known → List Specification → List ℕ → File
file_of k library refused = file_with k.tables.file (scope_in k.tables.file.syntax.now k.tables.file.rounds.now) library refused

pub record AreConstantsKnown (t : Text) (k : Known) (library : List Specification) (refused : List ℕ) : Type 0 where
  pub whole : IsWhole t k.tables library refused
  pub rules : AreRulesKnown (file_of k library refused) k (lost (file_of k library refused))
  pub own : AreOwnTypes (file_of k library refused) k (lost (file_of k library refused))
