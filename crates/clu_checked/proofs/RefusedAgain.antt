-- In the file that is checked the same nodes are refused that stand in no brackets, if its own rules refuse types: by the same tables.
use Rattle.std.proofs.Common.{◌∙◌, ◌+◌, ◌-◌, ◌^◌, ◌<◌, List, length, map, Option, sym}
use Rattle.clu_base.specs.declared.rules.Refused.{Refused}
use Rattle.clu_tree.specs.declared.node.Node.{Node}
use Rattle.clu_tree.specs.Nodes.{modules}
use Rattle.clu_parser.specs.Trees.{Text}
use Rattle.clu_syntax.specs.Nodes.{item_at}
use Rattle.clu_types.specs.declared.spec.Spec.{Spec}
use Rattle.clu_checking.specs.Specifications.{specification_told}
use Rattle.clu_checking.specs.Files.{plain_file}
use Rattle.clu_checking.specs.Refusals.{refused_nodes}
use Rattle.clu_declares.specs.Declares.{AreFew, IsParsed}
use Rattle.clu_passes.specs.CountsRefused.{RefusesAgain}
use Rattle.clu_check_mod.specs.Answered.{IsFirst}
use Rattle.clu_check_mod.specs.declared.walk.Extent.{Extent}
use Rattle.clu_checked.specs.Checked.{file}
use Rattle.clu_checked.proofs.TypesRight.{refused_by_rules, refused_right}

module _ (t : Text) (nodes : List Node) (parsed : IsParsed t nodes) (library : List Spec) (asked : Extent) (first : Option Refused) (is : IsFirst nodes library asked first)
    (few : AreFew nodes is.rounds) (few_modules : length (modules nodes) + length library < 2 ^ 32 - 1) where
  pub refuses_again : RefusesAgain (file nodes library asked first is (map specification_told library))
  refuses_again n inside apart =
      refused_right t nodes parsed library asked first is few few_modules (item_at nodes) n inside apart
      ∙ sym (refused_by_rules t nodes parsed library asked first is few few_modules (item_at nodes) (refused_nodes (plain_file nodes is.rounds (map specification_told library))) n inside apart)
