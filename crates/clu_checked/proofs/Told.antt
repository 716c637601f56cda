-- The first fault by the tables that a check makes is the refusal of the file, as far as the rules over them say what the definitions say.
use Rattle.std.proofs.Common.{◌≡◌, ◌∙◌, ◌<◌, ℕ, Bool, true, false, List, length, Option, Some, refl, sym, ap, ap₂, subst}
use Rattle.clu_base.specs.declared.rules.Refused.{Refused}
use Rattle.clu_tree.specs.declared.node.Node.{Node}
use Rattle.clu_tree.specs.declared.node.NodeKind.TheVariants as kind
use Rattle.clu_parser.specs.Trees.{Text}
use Rattle.clu_syntax.specs.declared.round.Round.{Round}
use Rattle.clu_syntax.specs.Items.{Item}
use Rattle.clu_syntax.specs.Kinds.{kind_at}
use Rattle.clu_syntax.specs.Rounds.{AreRounds}
use Rattle.clu_names.specs.declared.binding.Names.{Names}
use Rattle.clu_names.specs.declared.scopes.Declared.{Declared}
use Rattle.clu_names.specs.Scopes.{declarations}
use Rattle.clu_types.specs.declared.spec.Spec.{Spec}
use Rattle.clu_checking.specs.Specifications.{Specification}
use Rattle.clu_checking.specs.Files.{File, is_kind, plain_file, scope_in}
use Rattle.clu_checking.specs.Equates.{is_circular}
use Rattle.clu_checking.specs.Rules as definition
use Rattle.clu_checking.specs.Refusals.{checked_file, heading_refusal, is_bad, refusal, refused_nodes}
use Rattle.clu_declares.specs.Declares.{IsParsed}
use Rattle.clu_bindings.specs.declared.file.File as bindings
use Rattle.clu_name_rules.specs.Constructors.{ValuesAscend}
use Rattle.clu_type_rules.specs.declared.known.Known.{Known}
use Rattle.clu_type_rules.specs.Asked.{rules_at}
use Rattle.clu_type_rules.specs.Rules.{violates}
use Rattle.clu_type_rules.specs.Tags.{TagsAscend}
use Rattle.clu_type_rules.specs.Walking.{bad_in, first_fault, first_of}
use Rattle.clu_passes.specs.Refusing.{AgreeBelow, AgreeInEquates, AgreeInHeadings, AgreeInRest, IsOrder, bits_in, has_fault, heading_fault, rest_fault}
use Rattle.clu_passes.specs.Notes.{HaveParents}
use Rattle.clu_passes.specs.Right.{AreRight, IsFirst as IsFirstOf}
use Rattle.clu_passes.specs.Tags.{asks_tags}
use Rattle.clu_passes.specs.Trees.{IsFileOfTree}
use Rattle.clu_passes.specs.Turns.{arm_declared, bit}
use Rattle.clu_passes.proofs.FaultsFound as found
use Rattle.clu_passes.proofs.OfParents.{have_parents}
use Rattle.clu_passes.proofs.OrderTold.{order_told}
use Rattle.clu_passes.proofs.WalksAgree.{agree_in_headings, agree_in_rest}
use Rattle.clu_check_mod.specs.Answered.{IsFirst}
use Rattle.clu_check_mod.specs.Asking.{is_violated}
use Rattle.clu_check_mod.specs.Bad.{EquatesAscend, bad_of_all, fault_of_all}
use Rattle.clu_check_mod.specs.Walks.{WalksAscend, first_in}
use Rattle.clu_check_mod.specs.declared.walk.Extent.{Extent}
use Rattle.clu_check_mod.specs.declared.walk.Extent.TheVariants as extent
use Rattle.clu_checked.specs.Checked.{TagsKnown, bits, circular, file, known, order, tabled}
use Rattle.clu_checked.proofs.Ascending.{equates_ascend, walks_ascend}
use Rattle.clu_checked.proofs.Reached.{reached}

-- ---- what is asked by name is what the rules say

module _ (k : Known) (items : ℕ → Item) where
  pub headings_found : (bad : List Bool) → first_in k bad items extent.Headings ≡ first_fault (heading_fault k items bad) 0 k.tables.file.syntax.now
  unfolding is_violated
  headings_found bad = refl

  pub whole_found : (bad : List Bool) → first_in k bad items extent.Whole ≡ first_of (first_fault (heading_fault k items bad) 0 k.tables.file.syntax.now) (first_fault (rest_fault k items bad) 0 k.tables.file.syntax.now)
  unfolding is_violated
  whole_found bad = refl

  pub bits_found : (places : List ℕ) → bad_of_all k items places ≡ bad_in k.tables.file.syntax.now k.tables.file.rounds.now (has_fault k items) k.tables.file.names.now.declared.items places
  unfolding fault_of_all is_violated
  bits_found places = refl

module _ (t : Text) (nodes : List Node) (parsed : IsParsed t nodes) (library : List Spec) (asked : Extent) (first : Option Refused) (is : IsFirst nodes library asked first) (specs : List Specification) where
  abbrev k : Known
  k = known nodes library asked first is

  abbrev its : File
  its = file nodes library asked first is specs

  pub of_tree : IsFileOfTree its
  of_tree = record { shaped = parsed.forms; ordered = parsed.order; tree = parsed.tree; surrounded = is.surrounded }

  pub is_order : IsOrder its is.names (order nodes library asked first is) (circular nodes library asked first is)
  is_order = order_told its is.surrounded refl is.names is.names_are.declared is.names_are.bound is.names_are.starts (order nodes library asked first is) (circular nodes library asked first is) is.is.lists_are.order is.is.lists_are.circular

  -- ---- the file as the rules read it in their tables

  abbrev ks : List Node
  ks = k.tables.file.syntax.now

  abbrev rs : List Round
  rs = k.tables.file.rounds.now

  abbrev there : File
  there = tabled nodes library asked first is specs

  abbrev gone : List ℕ
  gone = refused_nodes (plain_file k.tables.file.syntax.now k.tables.file.rounds.now specs)

  file_said : k.tables.file ≡ is.is.file
  file_said = is.is.is.is.is.tables.file_is ∙ is.is.is.file_is

  pub nodes_said : k.tables.file.syntax.now ≡ nodes
  nodes_said = ap (λ (f : bindings.File). f.syntax.now) file_said ∙ is.is.nodes_are

  pub rounds_said : k.tables.file.rounds.now ≡ is.rounds
  rounds_said = ap (λ (f : bindings.File). f.rounds.now) file_said ∙ is.is.rounds_are

  names_said : k.tables.file.names.now ≡ is.names
  names_said = ap (λ (f : bindings.File). f.names.now) file_said ∙ is.is.names_are

  declared_said : k.tables.file.names.now.declared.items ≡ declarations ks rs
  declared_said = ap (λ (names : Names). names.declared.items) names_said ∙ is.names_are.declared ∙ ap₂ declarations (sym nodes_said) (sym rounds_said)

  pub same : file nodes library asked first is specs ≡ tabled nodes library asked first is specs
  same = ap₂ (λ (xs : List Node) (rounds : List Round). checked_file xs rounds specs) (sym nodes_said) (sym rounds_said)

  pub tabled_tree : IsFileOfTree there
  tabled_tree = subst IsFileOfTree same of_tree

  -- ---- what ascends

  parsed_there : IsParsed t k.tables.file.syntax.now
  parsed_there = subst (IsParsed t) (sym nodes_said) parsed

  surrounded_there : AreRounds k.tables.file.syntax.now k.tables.file.rounds.now
  surrounded_there = subst (λ (ns : List Node). AreRounds ns k.tables.file.rounds.now) (sym nodes_said) (subst (AreRounds nodes) (sym rounds_said) is.surrounded)

  equates_up : ValuesAscend k.tables → EquatesAscend k
  equates_up = equates_ascend t k parsed_there surrounded_there

  walks_up : (items : ℕ → Item) → TagsKnown k (bits nodes library asked first is items) items asked → WalksAscend k (bits nodes library asked first is items) items asked
  walks_up items = walks_ascend t k parsed_there surrounded_there (bits nodes library asked first is items) items asked

  -- ---- bad equates

  module _ (items : ℕ → Item) where
    abbrev its_bits : List Bool
    its_bits = bits nodes library asked first is items

    pub its_order : IsOrder there k.tables.file.names.now (order nodes library asked first is) (circular nodes library asked first is)
    its_order =
        subst (λ (names : Names). IsOrder there names (order nodes library asked first is) (circular nodes library asked first is)) (sym names_said)
        (subst (λ (f : File). IsOrder f is.names (order nodes library asked first is) (circular nodes library asked first is)) same is_order)

    bits_are : its_bits ≡ bits_in there (order nodes library asked first is) (has_fault k items)
    bits_are =
        bits_found k items (order nodes library asked first is)
        ∙ ap (λ (ds : List Declared). bad_in k.tables.file.syntax.now k.tables.file.rounds.now (has_fault k items) ds (order nodes library asked first is)) declared_said

    abbrev Agreed : File → Type 0
    Agreed f = AgreeInEquates f (violates k its_bits items) (definition.violates f (bit its_bits))

    pub bad_told : Agreed its → (e : ℕ) → is_kind its kind.Equate e ≡ true → is_circular its e ≡ false → bit its_bits e ≡ is_bad its e
    bad_told agree =
        subst (λ (f : File). (e : ℕ) → is_kind f kind.Equate e ≡ true → is_circular f e ≡ false → bit its_bits e ≡ is_bad f e) (sym same)
        (found.bad_by_tables k (scope_in ks rs) specs gone tabled_tree items (order nodes library asked first is) (circular nodes library asked first is) its_order its_bits bits_are
        (subst Agreed same agree))

    pub arms_told : Agreed its → (e : ℕ) → arm_declared its.nodes its.rounds e ≡ Some e → AgreeBelow its (violates k its_bits items) (definition.violates its (bit its_bits)) e → bit its_bits e ≡ is_bad its e
    arms_told agree =
        subst (λ (f : File). (e : ℕ) → arm_declared f.nodes f.rounds e ≡ Some e → AgreeBelow f (violates k its_bits items) (definition.violates f (bit its_bits)) e → bit its_bits e ≡ is_bad f e) (sym same)
        (found.arms_by_tables k (scope_in ks rs) specs gone tabled_tree items (order nodes library asked first is) (circular nodes library asked first is) its_order its_bits bits_are
        (subst Agreed same agree))

    -- ---- both walks

    module _ (right : AreRight there k items its_bits) where
      its_parents : HaveParents there
      its_parents = have_parents t there parsed_there surrounded_there

      tabled_right : AreRight there k items (bits_in there (order nodes library asked first is) (has_fault k items))
      tabled_right = subst (AreRight there k items) bits_are right

      pub headings_agree : AgreeInHeadings there (violates k its_bits items)
      headings_agree =
          subst (λ (b : List Bool). AgreeInHeadings there (violates k b items)) (sym bits_are)
          (agree_in_headings k (scope_in ks rs) specs gone tabled_tree its_parents items (order nodes library asked first is) (circular nodes library asked first is) its_order tabled_right)

      pub rest_agrees : AgreeInRest there (violates k its_bits items)
      rest_agrees =
          subst (λ (b : List Bool). AgreeInRest there (violates k b items)) (sym bits_are)
          (agree_in_rest k (scope_in ks rs) specs gone tabled_tree its_parents items (order nodes library asked first is) (circular nodes library asked first is) its_order tabled_right)

      -- the tags ascend at nodes that the walks reach, if they do where no fault is before
      pub tags_known : ((n : ℕ) → n < length ks → IsFirstOf there n → asks_tags (rules_at (kind_at ks n)) ≡ true → TagsAscend k n) → TagsKnown k its_bits items asked
      tags_known up whole none n inside before tagged =
          up n inside (reached t k (scope_in ks rs) specs gone tabled_tree items its_bits headings_agree rest_agrees parsed_there n inside none before tagged) tagged

-- ---- the answer, where the rules over the tables are right

module _ (t : Text) (nodes : List Node) (parsed : IsParsed t nodes) (library : List Spec) (first : Option Refused) (specs : List Specification) (items : ℕ → Item) where
  -- what rules look for by its name ascends, and they are right at each node
  pub record AreRightTables (asked : Extent) (is : IsFirst nodes library asked first) : Type 0 where
    pub values : ValuesAscend (known nodes library asked first is).tables
    pub tags : (n : ℕ) → n < length (known nodes library asked first is).tables.file.syntax.now → IsFirstOf (tabled nodes library asked first is specs) n → asks_tags (rules_at (kind_at (known nodes library asked first is).tables.file.syntax.now n)) ≡ true → TagsAscend (known nodes library asked first is) n
    pub right : AreRight (tabled nodes library asked first is specs) (known nodes library asked first is) items (bits nodes library asked first is items)

  walked : (asked : Extent) (is : IsFirst nodes library asked first) → AreRightTables asked is → first_in (known nodes library asked first is) (bits nodes library asked first is items) items asked ≡ first
  walked asked is right =
      is.is.is.is.is.is items (equates_up t nodes parsed library asked first is specs right.values)
      (walks_up t nodes parsed library asked first is specs items (tags_known t nodes parsed library asked first is specs items right.right right.tags))

  pub heading_answered : (is : IsFirst nodes library extent.Headings first) → AreRightTables extent.Headings is → first ≡ heading_refusal (file nodes library extent.Headings first is specs)
  heading_answered is right =
      let k : Known = known nodes library extent.Headings first is in
      let bad : List Bool = bits nodes library extent.Headings first is items in
      sym (walked extent.Headings is right)
      ∙ headings_found k items bad
      ∙ found.heading_by_tables k (scope_in k.tables.file.syntax.now k.tables.file.rounds.now) specs (refused_nodes (plain_file k.tables.file.syntax.now k.tables.file.rounds.now specs)) (tabled_tree t nodes parsed library extent.Headings first is specs) items bad
      (headings_agree t nodes parsed library extent.Headings first is specs items right.right)
      ∙ sym (ap heading_refusal (same t nodes parsed library extent.Headings first is specs))

  pub answered : (is : IsFirst nodes library extent.Whole first) → AreRightTables extent.Whole is → first ≡ refusal (file nodes library extent.Whole first is specs)
  answered is right =
      let k : Known = known nodes library extent.Whole first is in
      let bad : List Bool = bits nodes library extent.Whole first is items in
      sym (walked extent.Whole is right)
      ∙ whole_found k items bad
      ∙ found.refused_by_tables k (scope_in k.tables.file.syntax.now k.tables.file.rounds.now) specs (refused_nodes (plain_file k.tables.file.syntax.now k.tables.file.rounds.now specs)) (tabled_tree t nodes parsed library extent.Whole first is specs) items bad
      (headings_agree t nodes parsed library extent.Whole first is specs items right.right)
      (rest_agrees t nodes parsed library extent.Whole first is specs items right.right)
      ∙ sym (ap refusal (same t nodes parsed library extent.Whole first is specs))
