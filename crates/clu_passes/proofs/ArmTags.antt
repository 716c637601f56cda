-- V22 by the tags that a Tagcase selects, by the bits of tags that stand twice, and by how many tags the arms name.
use Rattle.std.proofs.Common.{◌≡◌, ◌∙◌, ℕ, zero, suc, ◌-◌, Bool, true, false, ◌&&◌, ◌||◌, not, if◌then◌else◌, List, [], ◌∷◌, ◌++◌, length, take, drop, flat_map, bytes_eq, nat_lt, Option, Some, None, refl, sym, ap, ap₂, subst}
use Rattle.std.specs.Prelude.{slice_get}
use Rattle.std.specs.Option.{option_and_then, option_map}
use Rattle.std.specs.List.{AllByRecursion, list_any, list_all}
use Rattle.std.proofs.Math.Bool.{or_assoc}
use Rattle.std.proofs.lemmas.Bool.{true≢false, and_parts, and_from}
use Rattle.clu_tree.specs.declared.node.Node.{Node}
use Rattle.clu_tree.specs.declared.node.NodeKind.{NodeKind}
use Rattle.clu_tree.specs.declared.node.NodeKind.TheVariants as kind
use Rattle.clu_tree.specs.Nodes.{IsTree}
use Rattle.clu_parser.specs.Shape.{HaveForms}
use Rattle.clu_types.specs.CluType.{Fields}
use Rattle.clu_types.specs.declared.term.Field.{Field}
use Rattle.clu_types.specs.declared.term.Term.{Term}
use Rattle.clu_types.specs.Arena.{types_of, fields_at}
use Rattle.clu_syntax.specs.Kinds.{kind_of, kind_at}
use Rattle.clu_syntax.specs.Splits.{child, is_of, after_run, type_of}
use Rattle.clu_syntax.specs.Syntax.{Identifier, Statement, nothing_else}
use Rattle.clu_syntax.specs.Items.{Item, no_item}
use Rattle.clu_syntax.specs.Nodes.{before, item_at, item_with, tags_of, tag_arm_of, otherwise_of, tagcase_of, statement_of}
use Rattle.clu_settle.specs.Names.{names_of}
use Rattle.clu_meaning.specs.Scoping.{Scope}
use Rattle.clu_checking.specs.Specifications.{Specification}
use Rattle.clu_checking.specs.Files.{File, item, children}
use Rattle.clu_checking.specs.NameRules.{stands_twice, siblings_before}
use Rattle.clu_checking.specs.ExpressionRules as expressions
use Rattle.clu_checking.specs.StatementRules as statements
use Rattle.clu_checking.specs.StatementRules.{v22, v22_in}
use Rattle.clu_declares.proofs.Below.{item_there}
use Rattle.clu_declares.proofs.Facts.{There, there}
use Rattle.clu_head.specs.Refused.{is_set}
use Rattle.clu_name_rules.specs.declared.repeated.ListKind.TheVariants as list
use Rattle.clu_name_rules.specs.Components.{is_selector_of, leaves_some}
use Rattle.clu_name_rules.specs.Repeated.{tags_at}
use Rattle.clu_name_rules.specs.Words.{words_to}
use Rattle.clu_type_rules.specs.declared.known.Known.{Known}
use Rattle.clu_type_rules.specs.StatementRules.{tags_by}
use Rattle.clu_type_rules.specs.Tags as of_tags
use Rattle.clu_passes.specs.Bound.{IsFirstKnown}
use Rattle.clu_passes.specs.ConstantTables.{AreTables}
use Rattle.clu_passes.specs.FactTables.{AreFacts}
use Rattle.clu_passes.specs.Notes.{HaveParents, DeclareModules, AreRepeated}
use Rattle.clu_passes.proofs.ByNotes.{item_strict, node_known}
use Rattle.clu_passes.proofs.FactNodes as so
use Rattle.clu_passes.proofs.Known.{is_known, are_known}
use Rattle.clu_passes.proofs.Selectors.{selectors_are, tags_by_count}
use Rattle.clu_passes.proofs.StandTwice as listed
use Rattle.clu_passes.proofs.StandTwice.{own_before}
use Rattle.clu_passes.proofs.TagsRound.{TagsTold, tags_are, tags_told, round_told}

-- ---- lists

front_known : (all : List Identifier) (m : ℕ) (names : List Identifier) → are_known all names ≡ true → are_known all (take m names) ≡ true
front_known all zero names known = refl
front_known all (suc m) [] known = refl
front_known all (suc m) (name ∷ names) known =
    let parts = and_parts (is_known all name) (are_known all names) known in
    and_from (is_known all name) (are_known all (take m names)) parts.0 (front_known all m names parts.1)

tags_known : (all : List Identifier) (o : Option ℕ) (names : List Identifier) → are_known all names ≡ true → are_known all (tags_of o names) ≡ true
tags_known all None names known = known
tags_known all (Some c) names known = front_known all (length names - 1) names known

-- ---- only arms have tags

no_arm : (its : ℕ → Item) (nodes : List Node) (n : ℕ) (node : Node) (j : NodeKind) → is_of kind.TagArm j ≡ false → (tag_arm_of its nodes n node j).tags ≡ []
no_arm its nodes n node kind.TagArm other = absurd (true≢false other)
no_arm its nodes n node _ other = refl

no_tags : (nodes : List Node) (n : ℕ) → is_of kind.TagArm (kind_at nodes n) ≡ false → tags_at nodes n ≡ []
no_tags nodes n other = by (slice_get nodes n) refl
  where
    by : (its : Option Node) → slice_get nodes n ≡ its → tags_at nodes n ≡ []
    by None at = ap (λ (its : Option Node). (item_with (λ m. no_item) nodes n its).tag_arm.tags) at
    by (Some node) at =
        ap (λ (its : Option Node). (item_with (λ m. no_item) nodes n its).tag_arm.tags) at
        ∙ no_arm (λ m. no_item) nodes n node node.kind (ap (λ (its : Option Node). is_of kind.TagArm (kind_of its)) (sym at) ∙ other)

module _ (f : File) where
  tags_same : (c : ℕ) → statements.tags_at f c ≡ tags_at f.nodes c
  tags_same c = by (is_of kind.TagArm (kind_at f.nodes c)) refl
    where
      by : (b : Bool) → is_of kind.TagArm (kind_at f.nodes c) ≡ b → (if b then (item f c).tag_arm.tags else []) ≡ tags_at f.nodes c
      by true e = sym (tags_are f.nodes c)
      by false e = sym (no_tags f.nodes c e)

  all_tags : (cs : List ℕ) → flat_map (statements.tags_at f) cs ≡ flat_map (tags_at f.nodes) cs
  all_tags [] = refl
  all_tags (c ∷ cs) = ap₂ (λ (a b : List Identifier). a ++ b) (tags_same c) (all_tags cs)

  own_tags : (all : List Identifier) (cs : List ℕ) → own_before all f.nodes (tags_at f.nodes) kind.TagArm cs ≡ flat_map (statements.tags_at f) cs
  own_tags all [] = refl
  own_tags all (c ∷ cs) = by (is_of kind.TagArm (kind_at f.nodes c)) (own_tags all cs)
    where
      by : (b : Bool) → own_before all f.nodes (tags_at f.nodes) kind.TagArm cs ≡ flat_map (statements.tags_at f) cs →
          (if b then tags_at f.nodes c ++ own_before all f.nodes (tags_at f.nodes) kind.TagArm cs else own_before all f.nodes (tags_at f.nodes) kind.TagArm cs) ≡ ((if b then (item f c).tag_arm.tags else []) ++ flat_map (statements.tags_at f) cs)
      by true rest = ap₂ (λ (a b : List Identifier). a ++ b) (tags_are f.nodes c) rest
      by false rest = rest

  module _ (parents : HaveParents f) (modules : DeclareModules f) (bits : List Bool) (repeated : AreRepeated f bits) where
    abbrev words : List Identifier
    words = words_to f.nodes (length f.nodes)

    arm_known : (n : ℕ) → kind_at f.nodes n ≡ kind.TagArm → are_known words (tags_at f.nodes n) ≡ true
    arm_known n is =
        let x : There f.nodes n kind.TagArm = there f.nodes n kind.TagArm refl is in
        let names : are_known words x.node.names ≡ true = ap (λ (its : Option Node). are_known words (names_of its)) (sym x.at) ∙ node_known f parents modules bits repeated n kind.TagArm is refl in
        ap (are_known words)
        (ap (λ (its : Option Node). (item_with (λ m. no_item) f.nodes n its).tag_arm.tags) x.at
        ∙ ap (λ (j : NodeKind). (tag_arm_of (λ m. no_item) f.nodes n x.node j).tags) x.is)
        ∙ tags_known words (type_of f.nodes x.node.children) x.node.names names

    -- a tag stands twice at an arm, or in one before it
    abbrev twice_or_before : ℕ → Bool
    twice_or_before n = stands_twice (tags_at f.nodes n) || list_any (λ tag. list_any (bytes_eq tag) (statements.tags_before f n)) (tags_at f.nodes n)

    bit_is : (n : ℕ) → kind_at f.nodes n ≡ kind.TagArm → is_set (slice_get bits n) ≡ twice_or_before n
    bit_is n is =
        item_strict f parents modules bits repeated tags_at kind.TagArm list.Tags listed.tags_are n is refl refl refl (arm_known n is) (λ b. refl)
        ∙ ap (λ (xs : List Identifier). stands_twice (tags_at f.nodes n) || list_any (λ tag. list_any (bytes_eq tag) xs) (tags_at f.nodes n)) (own_tags words (siblings_before f n))

module _ (k : Known) (scope : Scope) (library : List Specification) (refused : List ℕ) where
  abbrev nodes : List Node
  nodes = k.tables.file.syntax.now

  abbrev f : File
  f = so.f k scope library refused

  abbrev terms : List Term
  terms = k.tables.types.now

  abbrev items : ℕ → ℕ → Item
  items n = before n (item_at nodes)

  abbrev Told : Option (List Field) → Option Fields → Type 0
  Told code definition = TagsTold k scope library refused code definition

  module _ (shaped : HaveForms nodes) (tree : IsTree nodes) (are : AreTables f k.tables) (lost : ℕ → Bool) (facts : AreFacts f terms k.facts.now lost) (parents : HaveParents f) (modules : DeclareModules f) (repeated : AreRepeated f k.tables.items.now.repeated.items) where
    -- ---- an arm

    bad_same : (n : ℕ) → kind_at nodes n ≡ kind.TagArm → (code : Option (List Field)) → statements.has_bad_tag f n (option_map (fields_at (types_of terms)) code) (tags_at nodes n) ≡ of_tags.has_bad_tag k n code
    bad_same n is None = refl
    bad_same n is (Some fs) =
        or_assoc (not (list_all (expressions.is_selector_of (fields_at (types_of terms) fs)) (tags_at nodes n))) (stands_twice (tags_at nodes n)) (list_any (λ tag. list_any (bytes_eq tag) (statements.tags_before f n)) (tags_at nodes n))
        ∙ ap₂ (λ (a b : Bool). not a || b) (selectors_are (types_of terms) fs (tags_at nodes n)) (sym (bit_is f parents modules k.tables.items.now.repeated.items repeated n is))

    arm_is : (n : ℕ) → kind_at nodes n ≡ kind.TagArm → IsFirstKnown f lost n → v22_in f kind.TagArm n ≡ of_tags.has_bad_tag k n (of_tags.tags_round k n)
    arm_is n is round =
        let told : Told (of_tags.tags_round k n) (statements.tags_round f n) = round_told k scope library refused shaped tree are lost facts n round in
        ap₂ (λ (o : Option Fields) (tags : List Identifier). statements.has_bad_tag f n o tags) told.is (sym (tags_are nodes n))
        ∙ bad_same n is (of_tags.tags_round k n)

    -- ---- a Tagcase

    left_same : (n : ℕ) (code : Option (List Field)) → statements.leaves_tag f (option_map (fields_at (types_of terms)) code) (flat_map (statements.tags_at f) (children f n)) nothing_else ≡ of_tags.leaves_tag k n code
    left_same n None = refl
    left_same n (Some fs) =
        ap (λ (tags : List Identifier). nat_lt (length tags) (statements.count_of (fields_at (types_of terms) fs))) (all_tags f (children f n))
        ∙ tags_by_count (types_of terms) fs (tags_at nodes) (children f n)
        ∙ ap (leaves_some (tags_at nodes) (length fs)) (so.children_same k scope library refused (slice_get nodes n))

    with_others : (o : Option Fields) (tags : List Identifier) (token : ℕ) (cs : List ℕ) (n : ℕ) → statements.leaves_tag f o tags (otherwise_of (items n) nodes (Some token) cs) ≡ false
    with_others None tags token cs n = refl
    with_others (Some fs) tags token cs n = refl

    tagcase_is : (others : ℕ → Item) (n : ℕ) → kind_at nodes n ≡ kind.Tagcase → lost n ≡ false → v22_in f kind.Tagcase n ≡ (of_tags.has_no_others_at k others n && of_tags.leaves_tag k n (tags_by k n))
    tagcase_is others n is here =
        let x : There nodes n kind.Tagcase = there nodes n kind.Tagcase refl is in
        let told : Told (tags_by k n) (option_and_then statements.tags_of (statements.tagged_by f (item f n).statement)) =
        tags_told k scope library refused shaped tree are lost facts n (λ hit c cs e. (subst (AllByRecursion (λ c. lost c ≡ false)) e (facts.below n here)).0) in
        let its : (item f n).statement ≡ statement_of (items n) nodes n x.node kind.Tagcase =
        ap (λ (i : Item). i.statement) (item_there nodes n x.node x.at) ∙ ap (statement_of (items n) nodes n x.node) x.is in
        let code : of_tags.has_no_others_at k others n ≡ of_tags.has_no_others (statement_of others nodes n x.node kind.Tagcase) =
        ap (λ (o : Option Node). of_tags.has_no_others (item_with others nodes n o).statement) x.at
        ∙ ap (λ (j : NodeKind). of_tags.has_no_others (statement_of others nodes n x.node j)) x.is in
        ap (statements.leaves_some_tag f n) its
        ∙ by x.node x.node.value_token refl told.is (ap (λ (s : Statement). option_and_then statements.tags_of (statements.tagged_by f s)) (sym its))
        ∙ ap (λ (b : Bool). b && of_tags.leaves_tag k n (tags_by k n)) (sym code)
      where
        by : (node : Node) (token : Option ℕ) → node.value_token ≡ token → option_and_then statements.tags_of (statements.tagged_by f (item f n).statement) ≡ option_map (fields_at (types_of terms)) (tags_by k n) →
            option_and_then statements.tags_of (statements.tagged_by f (statement_of (items n) nodes n node kind.Tagcase)) ≡ option_and_then statements.tags_of (statements.tagged_by f (item f n).statement) →
            statements.leaves_some_tag f n (statement_of (items n) nodes n node kind.Tagcase) ≡ (of_tags.has_no_others (statement_of others nodes n node kind.Tagcase) && of_tags.leaves_tag k n (tags_by k n))
        by node None e told same =
            ap (λ (token : Option ℕ). statements.leaves_tag f (option_and_then statements.tags_of (statements.tagged_by f (statement_of (items n) nodes n node kind.Tagcase))) (flat_map (statements.tags_at f) (children f n)) (otherwise_of (items n) nodes token (after_run nodes kind.TagArm (drop 1 node.children)))) e
            ∙ ap (λ (o : Option Fields). statements.leaves_tag f o (flat_map (statements.tags_at f) (children f n)) nothing_else) (same ∙ told)
            ∙ left_same n (tags_by k n)
            ∙ ap (λ (token : Option ℕ). of_tags.has_no_others (tagcase_of others nodes n (child 0 node) token (drop 1 node.children)) && of_tags.leaves_tag k n (tags_by k n)) (sym e)
        by node (Some token) e told same =
            ap (λ (token : Option ℕ). statements.leaves_tag f (option_and_then statements.tags_of (statements.tagged_by f (statement_of (items n) nodes n node kind.Tagcase))) (flat_map (statements.tags_at f) (children f n)) (otherwise_of (items n) nodes token (after_run nodes kind.TagArm (drop 1 node.children)))) e
            ∙ with_others (option_and_then statements.tags_of (statements.tagged_by f (statement_of (items n) nodes n node kind.Tagcase))) (flat_map (statements.tags_at f) (children f n)) token (after_run nodes kind.TagArm (drop 1 node.children)) n
            ∙ ap (λ (token : Option ℕ). of_tags.has_no_others (tagcase_of others nodes n (child 0 node) token (drop 1 node.children)) && of_tags.leaves_tag k n (tags_by k n)) (sym e)

    by_kind : (others : ℕ → Item) (n : ℕ) → lost n ≡ false → IsFirstKnown f lost n → (j : NodeKind) → kind_at nodes n ≡ j → v22_in f j n ≡ of_tags.v22_at k others j n
    by_kind others n here round kind.TagArm is = arm_is n is round
    by_kind others n here round kind.Tagcase is = tagcase_is others n is here
    by_kind others n here round _ is = refl

    pub v22_is : (others : ℕ → Item) (n : ℕ) → lost n ≡ false → IsFirstKnown f lost n → v22 f n ≡ of_tags.v22 k others n
    v22_is others n here round = by_kind others n here round (kind_at nodes n) refl
