-- The tags of the type on which a Tagcase selects, by what is known of types.
use Rattle.std.proofs.Common.{◌≡◌, ◌∙◌, ℕ, Bool, true, false, if◌then◌else◌, List, [], ◌∷◌, length, drop, Option, Some, None, refl, sym, ap, subst}
use Rattle.std.specs.Prelude.{slice_get}
use Rattle.std.specs.Option.{option_and_then, option_map}
use Rattle.std.proofs.lemmas.Bool.{true≢false}
use Rattle.clu_tree.specs.declared.node.Node.{Node}
use Rattle.clu_tree.specs.declared.node.NodeKind.{NodeKind}
use Rattle.clu_tree.specs.declared.node.NodeKind.TheVariants as kind
use Rattle.clu_tree.specs.Nodes.{IsTree}
use Rattle.clu_parser.specs.Shape.{HaveForms}
use Rattle.clu_types.specs.CluType.{CluType, Fields}
use Rattle.clu_types.specs.declared.term.TypeId.{TypeId}
use Rattle.clu_types.specs.declared.term.Field.{Field}
use Rattle.clu_types.specs.declared.term.Term.{Term}
use Rattle.clu_types.specs.declared.term.Term.TheVariants as term
use Rattle.clu_types.specs.Arena.{type_of, types_of, fields_at, PartsBelow}
use Rattle.clu_syntax.specs.Kinds.{kind_of, kind_at, is_expression}
use Rattle.clu_syntax.specs.Slots.{any, body, slots}
use Rattle.clu_syntax.specs.Splits.{child, is_of, run, after_run, children_of}
use Rattle.clu_syntax.specs.Syntax.{Identifier}
use Rattle.clu_syntax.specs.Items.{Item, no_item}
use Rattle.clu_syntax.specs.Nodes.{before, item_at, item_with, init_of, for_of, statement_of, tag_arm_of}
use Rattle.clu_syntax.proofs.Items.{item_is}
use Rattle.clu_settle.proofs.Shapes.{first_part}
use Rattle.clu_meaning.specs.Scoping.{Scope}
use Rattle.clu_checking.specs.Specifications.{Specification}
use Rattle.clu_checking.specs.Files.{File, item, parent, children}
use Rattle.clu_checking.specs.Typing as checking
use Rattle.clu_checking.specs.StatementRules as statements
use Rattle.clu_declares.proofs.Below.{before_is, item_there, same_kind}
use Rattle.clu_declares.proofs.Facts.{there}
use Rattle.clu_name_rules.specs.Repeated.{tags_at}
use Rattle.clu_type_rules.specs.declared.known.Known.{Known}
use Rattle.clu_type_rules.specs.Known as known
use Rattle.clu_type_rules.specs.Known.{term_of, type_at, tags_in, tags_of, first_type}
use Rattle.clu_type_rules.specs.StatementRules.{tagged_by, tags_by}
use Rattle.clu_type_rules.specs.Tags as of_tags
use Rattle.clu_type_rules.specs.Tags.{tags_round}
use Rattle.clu_passes.specs.Bound.{IsFirstKnown, has_arms}
use Rattle.clu_passes.specs.ConstantTables.{AreTables}
use Rattle.clu_passes.specs.FactTables.{typed, IsType, AreFacts}
use Rattle.clu_passes.proofs.FactNodes as so
use Rattle.clu_passes.proofs.FactTypes.{IsTerm, term_of_type}
use Rattle.clu_passes.proofs.Misfits.{AreFieldsBelow}
use Rattle.clu_passes.proofs.OwnPlaces.{there_is}

tags_same : (types : List CluType) (its : Term) → statements.tags_of (type_of types its) ≡ option_map (fields_at types) (tags_of its)
tags_same types (term.Oneof fs) = refl
tags_same types (term.Variant fs) = refl
tags_same types _ = refl

tags_below : (n : ℕ) (its : Term) → PartsBelow n its → AreFieldsBelow n (tags_of its)
tags_below n (term.Oneof fs) parts = parts
tags_below n (term.Variant fs) parts = parts
tags_below n _ parts = tt

-- ---- the tags of an arm, whatever the nodes before it are

arm_tags : (its others : ℕ → Item) (nodes : List Node) (n : ℕ) (node : Node) (j : NodeKind) → (tag_arm_of its nodes n node j).tags ≡ (tag_arm_of others nodes n node j).tags
arm_tags its others nodes n node kind.TagArm = refl
arm_tags its others nodes n node _ = refl

item_tags : (its others : ℕ → Item) (nodes : List Node) (n : ℕ) (o : Option Node) → (item_with its nodes n o).tag_arm.tags ≡ (item_with others nodes n o).tag_arm.tags
item_tags its others nodes n None = refl
item_tags its others nodes n (Some node) = arm_tags its others nodes n node node.kind

pub tags_are : (nodes : List Node) (n : ℕ) → tags_at nodes n ≡ (item_at nodes n).tag_arm.tags
tags_are nodes n = item_tags (λ m. no_item) (before n (item_at nodes)) nodes n (slice_get nodes n) ∙ sym (ap (λ (i : Item). i.tag_arm.tags) (item_is nodes n))

module _ (k : Known) (scope : Scope) (library : List Specification) (refused : List ℕ) where
  abbrev nodes : List Node
  nodes = k.tables.file.syntax.now

  abbrev f : File
  f = so.f k scope library refused

  abbrev terms : List Term
  terms = k.tables.types.now

  abbrev items : ℕ → ℕ → Item
  items n = before n (item_at nodes)

  -- ---- statements that are no Tagcase

  no_init : (n : ℕ) (node : Node) (names : List Identifier) → statements.tagged_by f (init_of (items n) nodes n node names) ≡ None
  no_init n node [] = refl
  no_init n node (name ∷ names) = refl

  no_for : (n : ℕ) (names : List Identifier) (ds cs : List ℕ) → statements.tagged_by f (for_of (items n) nodes n names ds cs) ≡ None
  no_for n names ds [] = refl
  no_for n [] ds (c ∷ cs) = refl
  no_for n (name ∷ names) ds (c ∷ cs) = refl

  no_tagcase : (n : ℕ) (node : Node) (j : NodeKind) → is_of kind.Tagcase j ≡ false → statements.tagged_by f (statement_of (items n) nodes n node j) ≡ None
  no_tagcase n node kind.Tagcase other = absurd (true≢false other)
  no_tagcase n node kind.Init other = no_init n node node.names
  no_tagcase n node kind.For other = no_for n node.names (run nodes kind.Decl node.children) (after_run nodes kind.Decl node.children)
  no_tagcase n node _ other = refl

  none_tagged : (n : ℕ) → is_of kind.Tagcase (kind_at nodes n) ≡ false → statements.tagged_by f (item f n).statement ≡ None
  none_tagged n other = by (slice_get nodes n) refl
    where
      by : (its : Option Node) → slice_get nodes n ≡ its → statements.tagged_by f (item f n).statement ≡ None
      by None at = ap (λ (i : Item). statements.tagged_by f i.statement) (item_is nodes n ∙ ap (item_with (items n) nodes n) at)
      by (Some node) at =
          ap (λ (i : Item). statements.tagged_by f i.statement) (item_there nodes n node at)
          ∙ no_tagcase n node node.kind (ap (λ (its : Option Node). is_of kind.Tagcase (kind_of its)) (sym at) ∙ other)

  -- ---- tags that are told

  pub record TagsTold (code : Option (List Field)) (definition : Option Fields) : Type 0 where
    pub is : definition ≡ option_map (fields_at (types_of terms)) code
    pub below : AreFieldsBelow (length terms) code

  none_told : TagsTold None None
  none_told = record { is = refl; below = tt }

  abbrev tags_by_type : Option TypeId → Option (List Field)
  tags_by_type of = tags_in (term_of k of)

  module _ (shaped : HaveForms nodes) (tree : IsTree nodes) (are : AreTables f k.tables) (lost : ℕ → Bool) (facts : AreFacts f terms k.facts.now lost) where
    type_told : (of : Option TypeId) (t : Option CluType) → IsType terms of t → TagsTold (tags_by_type of) (option_and_then statements.tags_of t)
    type_told None None is = none_told
    type_told None (Some t) is = absurd is
    type_told (Some of) None is = absurd is
    type_told (Some of) (Some t) is =
        let x : IsTerm terms of t = term_of_type terms are.arena of t is.0 is.1 in
        let code : tags_by_type (Some of) ≡ tags_of x.its = ap tags_in x.there in
        record {
          is = ap statements.tags_of x.is ∙ tags_same (types_of terms) x.its ∙ ap (option_map (fields_at (types_of terms))) (sym code);
          below = subst (AreFieldsBelow (length terms)) (sym code) (tags_below (length terms) x.its x.parts);
        }

    abbrev FirstHere : ℕ → Type 0
    FirstHere p = (c : ℕ) (cs : List ℕ) → children f p ≡ c ∷ cs → lost c ≡ false

    tagcase_told : (p : ℕ) → kind_at nodes p ≡ kind.Tagcase → FirstHere p → TagsTold (tags_by k p) (option_and_then statements.tags_of (statements.tagged_by f (item f p).statement))
    tagcase_told p is here =
        let x = there nodes p kind.Tagcase refl is in
        let first = first_part nodes tree shaped is_expression (any (is_of kind.TagArm) ∷ body) p x.node x.at (ap slots x.is) in
        let c : ℕ = child 0 x.node in
        let kids : known.children k p ≡ c ∷ drop 1 x.node.children = ap children_of x.at ∙ first.is in
        let known_is : lost c ≡ false = here c (drop 1 x.node.children) (so.children_same k scope library refused (slice_get nodes p) ∙ kids) in
        let code : tagged_by k p ≡ type_at k c =
        ap (λ (b : Bool). if◌then◌else◌ {A = Option TypeId} b (first_type k (known.children k p)) None) (sym (there_is kind.Tagcase refl (slice_get nodes p)) ∙ ap (is_of kind.Tagcase) is) ∙ ap (first_type k) kids in
        let definition : statements.tagged_by f (item f p).statement ≡ typed f c =
        ap (λ (i : Item). statements.tagged_by f i.statement) (item_there nodes p x.node x.at)
        ∙ ap (λ (j : NodeKind). statements.tagged_by f (statement_of (items p) nodes p x.node j)) x.is
        ∙ ap (λ (i : Item). checking.type_of f i.expression) (before_is nodes p c first.first.0)
        ∙ sym (so.an_expression k scope library refused c first.first.1) in
        let told : TagsTold (tags_by_type (type_at k c)) (option_and_then statements.tags_of (typed f c)) = type_told (type_at k c) (typed f c) (facts.types c known_is) in
        subst (λ (of : Option TypeId). TagsTold (tags_by_type of) (option_and_then statements.tags_of (statements.tagged_by f (item f p).statement))) (sym code)
        (subst (λ (t : Option CluType). TagsTold (tags_by_type (type_at k c)) (option_and_then statements.tags_of t)) (sym definition) told)

    -- on which a node selects, if it is a Tagcase
    pub tags_told : (p : ℕ) → (is_of kind.Tagcase (kind_at nodes p) ≡ true → FirstHere p) → TagsTold (tags_by k p) (option_and_then statements.tags_of (statements.tagged_by f (item f p).statement))
    tags_told p here = by (is_of kind.Tagcase (kind_at nodes p)) refl
      where
        by : (b : Bool) → is_of kind.Tagcase (kind_at nodes p) ≡ b → TagsTold (tags_by k p) (option_and_then statements.tags_of (statements.tagged_by f (item f p).statement))
        by true e = tagcase_told p (same_kind kind.Tagcase (kind_at nodes p) e) (here e)
        by false e =
            let code : tagged_by k p ≡ None = ap (λ (b : Bool). if◌then◌else◌ {A = Option TypeId} b (first_type k (known.children k p)) None) (sym (there_is kind.Tagcase refl (slice_get nodes p)) ∙ e) in
            subst (λ (of : Option TypeId). TagsTold (tags_by_type of) (option_and_then statements.tags_of (statements.tagged_by f (item f p).statement))) (sym code)
            (subst (λ (t : Option CluType). TagsTold None (option_and_then statements.tags_of t)) (sym (none_tagged p e)) none_told)

    -- round an arm
    pub round_told : (n : ℕ) → IsFirstKnown f lost n → TagsTold (tags_round k n) (statements.tags_round f n)
    round_told n here = by (parent f n) refl
      where
        by : (o : Option ℕ) → parent f n ≡ o → TagsTold (tags_round k n) (statements.tags_round f n)
        by None e =
            subst (λ (o : Option ℕ). TagsTold (of_tags.tags_by_parent k o) (option_and_then statements.tags_of (statements.tagged_at f o))) (sym e) none_told
        by (Some p) e =
            subst (λ (o : Option ℕ). TagsTold (of_tags.tags_by_parent k o) (option_and_then statements.tags_of (statements.tagged_at f o))) (sym e) (tags_told p (λ hit c cs is. here p c cs e (ap has_arms (same_kind kind.Tagcase (kind_at nodes p) hit)) is))
