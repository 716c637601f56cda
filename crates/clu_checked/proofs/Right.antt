-- The rules over the tables of which a check answers are right at each node.
use Rattle.std.proofs.Common.{◌≡◌, ◌+◌, ◌-◌, ◌^◌, ◌<◌, ◌||◌, not, ℕ, Bool, true, false, List, length, map, Option, refl, sym}
use Rattle.std.proofs.lemmas.Bool.{true≢false}
use Rattle.clu_base.specs.declared.rules.Refused.{Refused}
use Rattle.clu_base.proofs.Bools.{implied}
use Rattle.clu_tree.specs.declared.node.Node.{Node}
use Rattle.clu_tree.specs.declared.node.NodeKind.{NodeKind}
use Rattle.clu_tree.specs.declared.node.NodeKind.TheVariants as kind
use Rattle.clu_tree.specs.Nodes.{modules}
use Rattle.clu_parser.specs.Trees.{Text}
use Rattle.clu_syntax.specs.Items.{Item}
use Rattle.clu_syntax.specs.Kinds.{kind_at}
use Rattle.clu_types.specs.declared.spec.Spec.{Spec}
use Rattle.clu_checking.specs.Specifications.{Specification, specification_told}
use Rattle.clu_checking.specs.Files.{File, plain_file}
use Rattle.clu_checking.specs.Refusals.{refused_nodes}
use Rattle.clu_declares.specs.Declares.{AreFew, IsParsed}
use Rattle.clu_type_rules.specs.declared.known.Known.{Known}
use Rattle.clu_type_rules.specs.Asked.{rules_at}
use Rattle.clu_type_rules.specs.Tags.{TagsAscend}
use Rattle.clu_passes.specs.ConstantsKnown.{AreConstantsKnown}
use Rattle.clu_passes.specs.Lost.{lost}
use Rattle.clu_passes.specs.Losing.{is_plain}
use Rattle.clu_passes.specs.Made.{IsWhole}
use Rattle.clu_passes.specs.OthersKnown.{AreOthersKnown, ArePlaced, is_in_headings}
use Rattle.clu_passes.specs.Right.{AreRight, IsFirst as IsFirstOf}
use Rattle.clu_passes.specs.Tags.{asks_tags}
use Rattle.clu_passes.specs.Trees.{is_of_constant}
use Rattle.clu_passes.specs.Turns.{bit}
use Rattle.clu_passes.proofs.ConstantsRight.{constants_right}
use Rattle.clu_passes.proofs.DefinitionsRight.{definitions_same}
use Rattle.clu_passes.proofs.OthersAscend.{others_ascend}
use Rattle.clu_passes.proofs.OthersRight.{others_right}
use Rattle.clu_check_mod.specs.Answered.{IsFirst}
use Rattle.clu_check_mod.specs.declared.walk.Extent.{Extent}
use Rattle.clu_checked.specs.Checked.{IsLibrary, IsOfGrammar, bits, circular, known, order, tabled}
use Rattle.clu_checked.proofs.Filled.{others_known, own}
use Rattle.clu_checked.proofs.Placed.{placed}
use Rattle.clu_checked.proofs.Told.{its_order}
use Rattle.clu_checked.proofs.Whole.{whole}

-- ---- nodes at which tags are looked for are statements

abbrev if_asked : NodeKind → Bool → Bool
if_asked k b = not (asks_tags (rules_at k)) || b

asked_plain : (k : NodeKind) → if_asked k (is_plain k) ≡ true
asked_plain kind.File = refl
asked_plain _ = refl

asked_apart : (k : NodeKind) → if_asked k (not (is_of_constant k)) ≡ true
asked_apart kind.File = refl
asked_apart _ = refl

asked_bare : (k : NodeKind) → if_asked k (not (is_in_headings k)) ≡ true
asked_bare kind.File = refl
asked_bare _ = refl

denied : (a b : Bool) → (not a || not b) ≡ true → a ≡ true → b ≡ false
denied true true e is = absurd (true≢false (sym e))
denied true false e is = refl
denied false b e is = absurd (true≢false (sym is))

module _ (t : Text) (nodes : List Node) (parsed : IsParsed t nodes) (library : List Spec) (asked : Extent) (first : Option Refused) (is : IsFirst nodes library asked first)
    (few : AreFew nodes is.rounds) (few_modules : length (modules nodes) + length library < 2 ^ 32 - 1) (grammar : IsOfGrammar nodes is.rounds) (kept : IsLibrary library) (items : ℕ → Item) where
  abbrev k : Known
  k = known nodes library asked first is

  abbrev specs : List Specification
  specs = map specification_told library

  abbrev f : File
  f = tabled nodes library asked first is (map specification_told library)

  abbrev gone : List ℕ
  gone = refused_nodes (plain_file k.tables.file.syntax.now k.tables.file.rounds.now specs)

  abbrev its_bits : List Bool
  its_bits = bits nodes library asked first is items

  its_whole : IsWhole t k.tables specs gone
  its_whole = whole t nodes parsed library asked first is few few_modules gone

  others : AreOthersKnown f k (lost f)
  others = others_known t nodes parsed library asked first is few few_modules grammar kept

  its_placed : ArePlaced f k
  its_placed = placed t nodes parsed library asked first is few few_modules grammar kept

  constants_known : AreConstantsKnown t k specs gone
  constants_known = record { whole = its_whole; rules = others.rules; own = own t nodes parsed library asked first is few few_modules grammar kept }

  -- tags ascend where no fault is before
  pub tags_up : (n : ℕ) → n < length k.tables.file.syntax.now → IsFirstOf f n → asks_tags (rules_at (kind_at k.tables.file.syntax.now n)) ≡ true → TagsAscend k n
  tags_up n inside before tagged =
      let its : NodeKind = kind_at k.tables.file.syntax.now n in
      others_ascend t k specs gone its_whole (lost f) others its_placed kept.components n inside (implied (asks_tags (rules_at its)) (is_plain its) (asked_plain its) tagged)
      (denied (asks_tags (rules_at its)) (is_of_constant its) (asked_apart its) tagged) (denied (asks_tags (rules_at its)) (is_in_headings its) (asked_bare its) tagged) before

  pub right : AreRight f k items its_bits
  right = record {
    constants = λ bad n inside of_constant alike worse quiet. constants_right t k specs gone items its_bits constants_known bad n inside of_constant alike worse quiet;
    others = λ n inside plain apart straight decls quiet before.
        others_right t k specs gone its_whole (lost f) others its_placed (order nodes library asked first is) (circular nodes library asked first is) (its_order t nodes parsed library asked first is specs items) items its_bits straight decls n inside plain apart quiet before;
    definitions = λ bad n inside apart straight r rule_asked. definitions_same t k specs gone its_whole items its_bits bad n apart r rule_asked;
  }
