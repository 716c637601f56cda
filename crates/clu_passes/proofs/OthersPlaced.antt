-- What a rule reads at a statement stands before it or in a heading.
use Rattle.std.proofs.Common.{ℕ, List}
use Rattle.clu_parser.specs.Trees.{Text}
use Rattle.clu_checking.specs.Specifications.{Specification}
use Rattle.clu_checking.specs.Files.{scope_in}
use Rattle.clu_type_rules.specs.declared.known.Known.{Known}
use Rattle.clu_passes.specs.ConstantTables.{file_with}
use Rattle.clu_passes.specs.Made.{IsWhole}
use Rattle.clu_passes.specs.OthersKnown.{ArePlaced, AreRepsThere}
use Rattle.clu_passes.specs.Routines.{AreParts}
use Rattle.clu_passes.proofs.OthersHeadings.{arms_seen, exceptions_seen, results_seen}
use Rattle.clu_passes.proofs.OthersSame as so
use Rattle.clu_passes.proofs.OthersVariables.{variables_seen}

pub others_placed : (t : Text) (k : Known) (library : List Specification) (refused : List ℕ) → IsWhole t k.tables library refused → AreParts (file_with k.tables.file (scope_in k.tables.file.syntax.now k.tables.file.rounds.now) library refused) k.routines.now.parts.items → AreRepsThere (file_with k.tables.file (scope_in k.tables.file.syntax.now k.tables.file.rounds.now) library refused) → ArePlaced (file_with k.tables.file (scope_in k.tables.file.syntax.now k.tables.file.rounds.now) library refused) k
others_placed t k library refused all parts reps = record {
  variables = λ n bare assigns. variables_seen t k library refused all reps n bare.inside assigns;
  results = λ n bare. results_seen k (scope_in k.tables.file.syntax.now k.tables.file.rounds.now) library refused (so.of_file t k library refused all) (so.parents t k library refused all) (so.stands t k library refused all) parts (so.firsts t k library refused all) reps n bare;
  exceptions = λ n bare. exceptions_seen k (scope_in k.tables.file.syntax.now k.tables.file.rounds.now) library refused (so.of_file t k library refused all) (so.parents t k library refused all) (so.stands t k library refused all) parts (so.firsts t k library refused all) reps n bare;
  arms = λ n bare is c arm. arms_seen k (scope_in k.tables.file.syntax.now k.tables.file.rounds.now) library refused (so.of_file t k library refused all) (so.parents t k library refused all) (so.stands t k library refused all) parts (so.firsts t k library refused all) reps n bare c arm;
}
