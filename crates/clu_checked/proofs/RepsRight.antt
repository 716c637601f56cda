-- What declares `rep` in the file with its headings, by what the grammar says of the tree.
use Rattle.std.proofs.Common.{◌≡◌, ◌∙◌, List, map, Option, refl, sym, ap, ap₂, subst}
use Rattle.clu_base.specs.declared.rules.Refused.{Refused}
use Rattle.clu_tree.specs.declared.node.Node.{Node}
use Rattle.clu_parser.specs.Trees.{Text}
use Rattle.clu_syntax.specs.declared.round.Round.{Round}
use Rattle.clu_types.specs.declared.spec.Spec.{Spec}
use Rattle.clu_checking.specs.Specifications.{Specification, specification_told}
use Rattle.clu_checking.specs.Files.{File}
use Rattle.clu_checking.specs.Refusals.{checked_file}
use Rattle.clu_declares.specs.Declares.{IsParsed}
use Rattle.clu_bindings.specs.declared.file.File.{File as Read}
use Rattle.clu_passes.specs.Reps.{AreReps}
use Rattle.clu_passes.specs.RepsOfTree.{HaveReps}
use Rattle.clu_passes.specs.Trees.{IsFileOfTree}
use Rattle.clu_passes.proofs.RepsOfTree.{reps_of_tree}
use Rattle.clu_check_mod.specs.Answered.{IsFirst}
use Rattle.clu_check_mod.specs.declared.walk.Extent.{Extent}
use Rattle.clu_checked.specs.Checked.{file, headed_file}

module _ (t : Text) (nodes : List Node) (parsed : IsParsed t nodes) (library : List Spec) (asked : Extent) (first : Option Refused) (is : IsFirst nodes library asked first) (tree : HaveReps nodes) where
  abbrev specs : List Specification
  specs = map specification_told library

  abbrev f : File
  f = file nodes library asked first is (map specification_told library)

  of_tree : IsFileOfTree f
  of_tree = record { shaped = parsed.forms; ordered = parsed.order; tree = parsed.tree; surrounded = is.surrounded }

  same : f ≡ headed_file nodes library asked first is (map specification_told library)
  same =
      ap₂ (λ (ns : List Node) (rs : List Round). checked_file ns rs specs)
      (sym (ap (λ (r : Read). r.syntax.now) is.is.is.file_is ∙ is.is.nodes_are)) (sym (ap (λ (r : Read). r.rounds.now) is.is.is.file_is ∙ is.is.rounds_are))

  pub reps_right : AreReps (headed_file nodes library asked first is (map specification_told library))
  reps_right = subst AreReps same (reps_of_tree t f parsed of_tree refl tree)
