-- Where stands what statements read, in the file of which a check answers, by what the grammar says of `rep`.
use Rattle.std.proofs.Common.{◌≡◌, ◌+◌, ◌-◌, ◌^◌, ◌<◌, ℕ, List, length, map, Option, refl, sym, subst}
use Rattle.clu_base.specs.declared.rules.Refused.{Refused}
use Rattle.clu_tree.specs.declared.node.Node.{Node}
use Rattle.clu_tree.specs.Nodes.{modules}
use Rattle.clu_parser.specs.Trees.{Text}
use Rattle.clu_types.specs.declared.spec.Spec.{Spec}
use Rattle.clu_checking.specs.Specifications.{Specification, specification_told}
use Rattle.clu_checking.specs.Files.{File, plain_file}
use Rattle.clu_checking.specs.Refusals.{checked_file, refused_nodes}
use Rattle.clu_declares.specs.Declares.{AreFew, IsParsed}
use Rattle.clu_bindings.specs.declared.file.File.{File as Read}
use Rattle.clu_type_rules.specs.declared.known.Known.{Known}
use Rattle.clu_passes.specs.Made.{IsWhole}
use Rattle.clu_passes.specs.OthersKnown.{ArePlaced, AreRepsThere}
use Rattle.clu_passes.specs.Reps.{AreReps}
use Rattle.clu_passes.proofs.OthersPlaced.{others_placed}
use Rattle.clu_passes.proofs.OthersReps.{reps_there}
use Rattle.clu_passes.proofs.ValuesKnown as known_at
use Rattle.clu_check_mod.specs.Answered.{IsFirst}
use Rattle.clu_check_mod.specs.declared.walk.Extent.{Extent}
use Rattle.clu_checked.specs.Checked.{IsLibrary, IsOfGrammar, known, tabled}
use Rattle.clu_checked.proofs.Filled.{home_reps, parts}
use Rattle.clu_checked.proofs.UnmetRight.{tables_file}
use Rattle.clu_checked.proofs.Whole.{whole}

module _ (t : Text) (nodes : List Node) (parsed : IsParsed t nodes) (library : List Spec) (asked : Extent) (first : Option Refused) (is : IsFirst nodes library asked first)
    (few : AreFew nodes is.rounds) (few_modules : length (modules nodes) + length library < 2 ^ 32 - 1) (grammar : IsOfGrammar nodes is.rounds) (kept : IsLibrary library) where
  abbrev k : Known
  k = known nodes library asked first is

  abbrev specs : List Specification
  specs = map specification_told library

  abbrev f : File
  f = tabled nodes library asked first is (map specification_told library)

  abbrev gone : List ℕ
  gone = refused_nodes (plain_file k.tables.file.syntax.now k.tables.file.rounds.now specs)

  its_whole : IsWhole t k.tables specs gone
  its_whole = whole t nodes parsed library asked first is few few_modules gone

  reps : AreReps f
  reps = subst (λ (r : Read). AreReps (checked_file r.syntax.now r.rounds.now specs)) (sym (tables_file t nodes parsed library asked first is few few_modules)) (home_reps t nodes parsed library asked first is few few_modules grammar kept)

  there : AreRepsThere f
  there =
      reps_there t f its_whole.made.file.parsed (known_at.of_tree t k.tables specs gone its_whole.made its_whole.lost) (known_at.parents t k.tables specs gone its_whole.made its_whole.lost) refl reps

  pub placed : ArePlaced f k
  placed = others_placed t k specs gone its_whole (parts t nodes parsed library asked first is few few_modules grammar kept) there
