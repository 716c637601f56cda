-- What a check answers is what the definitions say of the file.
use Rattle.std.proofs.Common.{◌≡◌, ◌∙◌, ◌+◌, ◌-◌, ◌^◌, ◌<◌, List, length, map, Option, Some, None, refl, sym, ap, subst}
use Rattle.clu_base.specs.declared.rules.Refused.{Refused}
use Rattle.clu_tree.specs.declared.node.Node.{Node}
use Rattle.clu_tree.specs.Nodes.{modules}
use Rattle.clu_parser.specs.Trees.{Text}
use Rattle.clu_syntax.specs.declared.round.Round.{Round}
use Rattle.clu_syntax.specs.Nodes.{item_at}
use Rattle.clu_syntax.specs.Rounds.{AreRounds}
use Rattle.clu_syntax.proofs.Unique.{unique}
use Rattle.clu_types.specs.declared.spec.Spec.{Spec}
use Rattle.clu_checking.specs.Specifications.{Specification, specification_told}
use Rattle.clu_checking.specs.Refusals.{checked_file, heading_refusal, refusal}
use Rattle.clu_declares.specs.Declares.{AreFew, IsParsed}
use Rattle.clu_passes.proofs.AcceptedFine.{accepted_headings}
use Rattle.clu_check_mod.specs.Answered.{IsFirst, IsUnspecified}
use Rattle.clu_check_mod.specs.Modules.{AreSpecified}
use Rattle.clu_check_mod.specs.declared.walk.Extent.{Extent}
use Rattle.clu_check_mod.specs.declared.walk.Extent.TheVariants as extent
use Rattle.clu_checked.specs.Checked.{IsLibrary, IsOfGrammar}
use Rattle.clu_checked.proofs.HeadsRight.{specified_right}
use Rattle.clu_checked.proofs.Right.{right, tags_up}
use Rattle.clu_checked.proofs.Told.{AreRightTables, answered, heading_answered}
use Rattle.clu_checked.proofs.TypesRight.{known_ascending}

module _ (t : Text) (nodes : List Node) (parsed : IsParsed t nodes) (rounds : List Round) (are : AreRounds nodes rounds) (few : AreFew nodes rounds) (library : List Spec) (few_modules : length (modules nodes) + length library < 2 ^ 32 - 1)
    (grammar : IsOfGrammar nodes rounds) (kept : IsLibrary library) where
  abbrev specs : List Specification
  specs = map specification_told library

  same_rounds : (others : List Round) → AreRounds nodes others → others ≡ rounds
  same_rounds others surround = unique nodes parsed.tree rounds are others surround

  module _ (asked : Extent) (first : Option Refused) (is : IsFirst nodes library asked first) where
    its_few : AreFew nodes is.rounds
    its_few = subst (AreFew nodes) (sym (same_rounds is.rounds is.surrounded)) few

    its_grammar : IsOfGrammar nodes is.rounds
    its_grammar = subst (IsOfGrammar nodes) (sym (same_rounds is.rounds is.surrounded)) grammar

    tables_right : AreRightTables t nodes parsed library first specs (item_at nodes) asked is
    tables_right = record {
      values = known_ascending t nodes parsed library asked first is its_few few_modules;
      tags = tags_up t nodes parsed library asked first is its_few few_modules its_grammar kept (item_at nodes);
      right = right t nodes parsed library asked first is its_few few_modules its_grammar kept (item_at nodes);
    }

    all_specified : heading_refusal (checked_file nodes rounds specs) ≡ None → AreSpecified is.is.is.headed.file.syntax.now is.is.is.terms is.is.is.headed.heads.now.modules.items
    all_specified none =
        specified_right t nodes parsed library asked first is its_few few_modules its_grammar.parameters
        (ap (λ (rs : List Round). heading_refusal (checked_file nodes rs specs)) (same_rounds is.rounds is.surrounded) ∙ none)

  -- the first fault by the tables is the refusal
  pub whole_first : (first : Option Refused) → IsFirst nodes library extent.Whole first → first ≡ refusal (checked_file nodes rounds specs)
  whole_first first is =
      answered t nodes parsed library first specs (item_at nodes) is (tables_right extent.Whole first is)
      ∙ ap (λ (rs : List Round). refusal (checked_file nodes rs specs)) (same_rounds is.rounds is.surrounded)

  pub headings_first : (first : Option Refused) → IsFirst nodes library extent.Headings first → first ≡ heading_refusal (checked_file nodes rounds specs)
  headings_first first is =
      heading_answered t nodes parsed library first specs (item_at nodes) is (tables_right extent.Headings first is)
      ∙ ap (λ (rs : List Round). heading_refusal (checked_file nodes rs specs)) (same_rounds is.rounds is.surrounded)

  -- no specification is lost
  pub none_lost : (asked : Extent) → IsUnspecified nodes library asked → ⊥
  none_lost extent.Whole none = none.lost (all_specified extent.Whole None none.is (accepted_headings (checked_file nodes rounds specs) (sym (whole_first None none.is))))
  none_lost extent.Headings none = none.lost (all_specified extent.Headings None none.is (sym (headings_first None none.is)))
