-- V15 by what is known of types, by what nodes bind and by the tags that a Tagcase selects.
use Rattle.std.proofs.Common.{◌≡◌, ◌∙◌, ◌<◌, ℕ, ◌+◌, Bool, true, false, ◌&&◌, ◌||◌, if◌then◌else◌, List, [], ◌∷◌, length, Option, Some, None, inl, inr, refl, sym, ap, ap₂, subst}
use Rattle.std.specs.Prelude.{slice_get, not}
use Rattle.std.specs.Option.{option_map}
use Rattle.std.specs.List.{AllByRecursion, list_any}
use Rattle.std.proofs.Math.Bool.{or-false}
use Rattle.std.proofs.lemmas.Bool.{true≢false}
use Rattle.clu_lexer.specs.declared.symbols.Symbol.{Symbol}
use Rattle.clu_tree.specs.declared.node.Node.{Node}
use Rattle.clu_tree.specs.declared.node.NodeKind.{NodeKind}
use Rattle.clu_tree.specs.declared.node.NodeKind.TheVariants as kind
use Rattle.clu_tree.specs.Nodes.{IsTree}
use Rattle.clu_parser.specs.Shape as shape
use Rattle.clu_parser.specs.Shape.{Part, Letter, IsWord, token_is, name_is, HaveForms, HasForm, IsFormOf, forms, names_in}
use Rattle.clu_types.specs.CluType.{CluType, Fields}
use Rattle.clu_types.specs.declared.term.TypeId.{TypeId}
use Rattle.clu_types.specs.declared.term.Field.{Field}
use Rattle.clu_types.specs.declared.term.Term.{Term}
use Rattle.clu_types.specs.Arena.{type_at as type_in_arena, types_of, fields_at, FieldsBelow}
use Rattle.clu_syntax.specs.Kinds.{kind_at, is_type}
use Rattle.clu_syntax.specs.Splits.{is_of, type_of, name_at, last_option, children_of}
use Rattle.clu_syntax.specs.Syntax.{Identifier, Variable}
use Rattle.clu_syntax.specs.Items.{Item, TagArm, variable_of}
use Rattle.clu_syntax.specs.Nodes.{before, item_at, tag_arm_with, tag_arm_of}
use Rattle.clu_parts.specs.Slots.{AreBefore}
use Rattle.clu_parts.proofs.Counted.{FirstName, first_named}
use Rattle.clu_parts.proofs.Fitting.{children_before}
use Rattle.clu_meaning.specs.Scoping as means
use Rattle.clu_meaning.specs.Scoping.{Scope}
use Rattle.clu_checking.specs.Specifications.{Specification}
use Rattle.clu_checking.specs.Files.{File, item}
use Rattle.clu_checking.specs.Headings as headings
use Rattle.clu_checking.specs.Operations.{may_fit}
use Rattle.clu_checking.specs.StatementRules as statements
use Rattle.clu_checking.specs.StatementRules.{Binding, bindings_in, v15, v15_in}
use Rattle.clu_bindings.specs.declared.meaning.Meaning.{Meaning}
use Rattle.clu_bindings.specs.declared.meaning.Meaning.TheVariants as meant
use Rattle.clu_bindings.specs.Inside.{type_inside}
use Rattle.clu_declares.proofs.Below.{before_is, item_there, same_kind}
use Rattle.clu_declares.proofs.Facts.{There, there}
use Rattle.clu_name_rules.specs.Components.{component_type}
use Rattle.clu_name_rules.specs.Repeated.{tags_at}
use Rattle.clu_type_rules.specs.declared.known.Known.{Known}
use Rattle.clu_type_rules.specs.Known as known
use Rattle.clu_type_rules.specs.Bindings as of_tables
use Rattle.clu_type_rules.specs.Bindings.{meanings, variable_type, binding_at}
use Rattle.clu_type_rules.specs.Tags as of_tags
use Rattle.clu_passes.specs.Bound.{AreInside, AreTargets, AreTargetsKnown, IsVariableKnown, IsFirstKnown, is_assigning}
use Rattle.clu_passes.specs.ConstantTables.{Means, AreTables}
use Rattle.clu_passes.specs.FactTables.{IsType, AreTypes, AreFacts}
use Rattle.clu_passes.proofs.Bound.{IsBound, bound_is}
use Rattle.clu_passes.proofs.BoundParts.{Each}
use Rattle.clu_passes.proofs.FactNodes as so
use Rattle.clu_passes.proofs.FactTypes.{may_known}
use Rattle.clu_passes.proofs.Misfits.{IsBelow, AreFieldsBelow, component_below}
use Rattle.clu_passes.proofs.Selectors.{component_is}
use Rattle.clu_passes.proofs.TagsRound.{TagsTold, tags_are, round_told}

name_behind : (x : Symbol) (ps : List Part) (w : List Letter) → IsWord (shape.token x ∷ shape.name ∷ ps) w → (m : ℕ) × (names_in w ≡ m + 1)
name_behind x ps _ (token_is _ _ _ (name_is _ w d)) = (names_in w, refl)

no_variable : (its : ℕ → Item) (o : Option Identifier) → variable_of its o None ≡ None
no_variable its None = refl
no_variable its (Some name) = refl

module _ (k : Known) (scope : Scope) (library : List Specification) (refused : List ℕ) where
  abbrev nodes : List Node
  nodes = k.tables.file.syntax.now

  abbrev f : File
  f = so.f k scope library refused

  abbrev terms : List Term
  terms = k.tables.types.now

  abbrev items : ℕ → ℕ → Item
  items n = before n (item_at nodes)

  -- ---- variables and the objects that they are to name

  -- the target is no variable, or one of this type
  abbrev IsVariable : Option (Option TypeId) → Option CluType → Type 0
  IsVariable None None = Unit {0}
  IsVariable (Some of) (Some t) = IsType terms of (Some t)
  IsVariable _ _ = ⊥

  may_name_same : (vs : List (Option (Option TypeId))) (ws : List (Option CluType)) → Each IsVariable vs ws → (os : List (Option TypeId)) (ts : List (Option CluType)) → AreTypes terms os ts → statements.may_name f ws ts ≡ of_tables.may_name k vs os
  may_name_same [] [] each os ts are = refl
  may_name_same [] (w ∷ ws) each os ts are = absurd each
  may_name_same (v ∷ vs) [] each os ts are = absurd each
  may_name_same (None ∷ vs) (None ∷ ws) each [] [] are = refl
  may_name_same (Some of ∷ vs) (Some t ∷ ws) each [] [] are = refl
  may_name_same (v ∷ vs) (w ∷ ws) each [] (t ∷ ts) are = absurd are
  may_name_same (v ∷ vs) (w ∷ ws) each (o ∷ os) [] are = absurd are
  may_name_same (None ∷ vs) (None ∷ ws) each (o ∷ os) (t ∷ ts) are = refl
  may_name_same (None ∷ vs) (Some w ∷ ws) each os ts are = absurd each.0
  may_name_same (Some of ∷ vs) (None ∷ ws) each os ts are = absurd each.0
  may_name_same (Some of ∷ vs) (Some w ∷ ws) each (o ∷ os) (t ∷ ts) are = ap₂ (λ (a b : Bool). a && b) (may_known terms o t are.0 of w each.0) (may_name_same vs ws each.1 os ts are.1)

  misfits_are : (b : Option of_tables.Binding) (xs : List Binding) → IsBound k scope library refused IsVariable b xs → list_any (λ x. not (statements.may_name f x.variables x.objects)) xs ≡ of_tables.is_misfit k b
  misfits_are None [] is = refl
  misfits_are None (x ∷ xs) is = absurd is
  misfits_are (Some b) [] is = absurd is
  misfits_are (Some b) (x ∷ []) is =
      or-false (not (statements.may_name f x.variables x.objects)) ∙ ap not (may_name_same b.variables x.variables is.0 b.objects x.objects is.1)
  misfits_are (Some b) (x ∷ y ∷ xs) is = absurd is

  -- ---- tags

  below_is_type : (o : Option TypeId) → IsBelow (length terms) o → IsType terms o (option_map (type_in_arena (types_of terms)) o)
  below_is_type None below = tt
  below_is_type (Some id) below = (below, refl)

  takes_same : (wanted : Option TypeId) (t : CluType) → IsType terms wanted (Some t) → (fs : List Field) → FieldsBelow (length terms) fs → (names : List Identifier) → statements.takes_tags f t (fields_at (types_of terms) fs) names ≡ of_tags.takes_tags k wanted fs names
  takes_same wanted t is fs below [] = refl
  takes_same wanted t is fs below (name ∷ names) =
      ap₂ (λ (a b : Bool). a && b)
      (ap (λ (o : Option CluType). may_fit o t) (component_is (types_of terms) fs name)
      ∙ may_known terms (component_type fs name) (option_map (type_in_arena (types_of terms)) (component_type fs name)) (below_is_type (component_type fs name) (component_below (length terms) fs name below)) wanted t is)
      (takes_same wanted t is fs below names)

  module _ (shaped : HaveForms nodes) (tree : IsTree nodes) (are : AreTables f k.tables) (lost : ℕ → Bool) (facts : AreFacts f terms k.facts.now lost) (inside : AreInside f k lost) where
    abbrev Here : List ℕ → Type 0
    Here cs = AllByRecursion (λ c. lost c ≡ false) cs

    -- ---- of an arm, where its type stands

    arm_at : (n : ℕ) (x : There nodes n kind.TagArm) → statements.arm_misfits f n (item f n).tag_arm (item f n).tag_arm.variable (statements.tags_round f n) ≡ statements.arm_misfits f n (tag_arm_with (items n) nodes n x.node (type_of nodes x.node.children)) (variable_of (items n) (last_option x.node.names) (type_of nodes x.node.children)) (statements.tags_round f n)
    arm_at n x =
        ap (λ (i : Item). statements.arm_misfits f n i.tag_arm i.tag_arm.variable (statements.tags_round f n)) (item_there nodes n x.node x.at)
        ∙ ap (λ (j : NodeKind). statements.arm_misfits f n (tag_arm_of (items n) nodes n x.node j) (tag_arm_of (items n) nodes n x.node j).variable (statements.tags_round f n)) x.is

    arm_names : (n : ℕ) (x : There nodes n kind.TagArm) → FirstName x.node.names
    arm_names n x =
        let h : HasForm nodes x.node = shaped n x.node x.at in
        elim (subst (λ (j : NodeKind). IsFormOf h.form (forms j)) x.is h.of_kind) [
          | inl e ↦ (let m = name_behind _ _ h.word (subst (λ (form : List Part). IsWord form h.word) e h.is_word) in first_named x.node.names m.0 (h.names_are ∙ m.1))
          | inr never ↦ absurd never
        ]

    typed_arm : (others : ℕ → Item) (n : ℕ) (arm : TagArm) → tags_at nodes n ≡ arm.tags → (name : Identifier) (t : ℕ) → t < n → is_type (kind_at nodes t) ≡ true → lost t ≡ false → (code : Option (List Field)) (definition : Option Fields) → TagsTold k scope library refused code definition →
        statements.arm_misfits f n arm (variable_of (items n) (Some name) (Some t)) definition ≡ of_tags.arm_misfits_by k others n t code
    typed_arm others n arm tags name t less is here code definition told =
        ap (λ (i : Item). statements.arm_misfits f n arm (Some (record { name = name; type = i.type })) definition) (before_is nodes n t less)
        ∙ ap (statements.arm_misfits f n arm (Some (record { name = name; type = (item f t).type }))) told.is
        ∙ by code told.below
      where
        by : (code : Option (List Field)) → AreFieldsBelow (length terms) code → statements.arm_misfits f n arm (Some (record { name = name; type = (item f t).type })) (option_map (fields_at (types_of terms)) code) ≡ of_tags.arm_misfits_by k others n t code
        by None below = refl
        by (Some fs) below =
            ap (λ (xs : List Identifier). not (statements.takes_tags f (headings.type_inside f n (item f t).type) (fields_at (types_of terms) fs) xs)) (sym tags)
            ∙ ap not (takes_same (type_inside k.tables.file others n t) (headings.type_inside f n (item f t).type) (inside.types others n t is here) fs below (tags_at nodes n))

    untyped_arm : (n : ℕ) (arm : TagArm) (o : Option Identifier) (definition : Option Fields) → statements.arm_misfits f n arm (variable_of (items n) o None) definition ≡ false
    untyped_arm n arm o definition = ap (λ (x : Option Variable). statements.arm_misfits f n arm x definition) (no_variable (items n) o)

    abbrev arm_of : ℕ → Node → TagArm
    arm_of n node = tag_arm_with (items n) nodes n node (type_of nodes node.children)

    by_children : (others : ℕ → Item) (n : ℕ) (x : There nodes n kind.TagArm) (name : FirstName x.node.names) → IsFirstKnown f lost n → (cs : List ℕ) → AreBefore n cs → Here cs → type_of nodes x.node.children ≡ type_of nodes cs →
        statements.arm_misfits f n (arm_of n x.node) (variable_of (items n) (last_option x.node.names) (type_of nodes cs)) (statements.tags_round f n) ≡ of_tags.arm_misfits_if k others n (type_of nodes cs)
    by_children others n x name round [] before_n here e = untyped_arm n (arm_of n x.node) (last_option x.node.names) (statements.tags_round f n)
    by_children others n x name round (c ∷ cs) before_n here e = by (is_type (kind_at nodes c)) refl
      where
        tags : tags_at nodes n ≡ (arm_of n x.node).tags
        tags = tags_are nodes n ∙ ap (λ (i : Item). i.tag_arm.tags) (item_there nodes n x.node x.at) ∙ ap (λ (j : NodeKind). (tag_arm_of (items n) nodes n x.node j).tags) x.is

        by : (b : Bool) → is_type (kind_at nodes c) ≡ b → statements.arm_misfits f n (arm_of n x.node) (variable_of (items n) (last_option x.node.names) (if b then Some c else None)) (statements.tags_round f n) ≡ of_tags.arm_misfits_if k others n (if b then Some c else None)
        by true is =
            ap (λ (xs : List Identifier). statements.arm_misfits f n (arm_of n x.node) (variable_of (items n) (last_option xs) (Some c)) (statements.tags_round f n)) name.is
            ∙ typed_arm others n (arm_of n x.node) tags (name_at (length name.others) (name.first ∷ name.others)) c before_n.0 is here.0 (of_tags.tags_round k n) (statements.tags_round f n) (round_told k scope library refused shaped tree are lost facts n round)
        by false is = untyped_arm n (arm_of n x.node) (last_option x.node.names) (statements.tags_round f n)

    arm_is : (others : ℕ → Item) (n : ℕ) → kind_at nodes n ≡ kind.TagArm → lost n ≡ false → IsFirstKnown f lost n → v15_in f kind.TagArm n ≡ of_tags.arm_misfits k others kind.TagArm n
    arm_is others n is here round =
        let x : There nodes n kind.TagArm = there nodes n kind.TagArm refl is in
        let below : Here x.node.children = subst Here (so.children_same k scope library refused (slice_get nodes n) ∙ ap children_of x.at) (facts.below n here) in
        arm_at n x
        ∙ by_children others n x (arm_names n x) round x.node.children (children_before nodes tree n x.node x.at) below refl
        ∙ ap (λ (cs : List ℕ). of_tags.arm_misfits_if k others n (type_of nodes cs)) (sym (ap children_of x.at))

    -- ---- of what is bound

    variable_is : (others : ℕ → Item) (n : ℕ) (m : Meaning) (x : means.Meaning) → Means nodes m x → IsVariableKnown f k n m → IsVariable (variable_type k others n m) (statements.variable_type f n x)
    unfolding variable_type
    variable_is others n (meant.Equate c) x is here = subst (λ (x : means.Meaning). IsVariable None (statements.variable_type f n x)) (sym is.1) tt
    variable_is others n meant.TypeSet x is here = subst (λ (x : means.Meaning). IsVariable None (statements.variable_type f n x)) (sym is) tt
    variable_is others n (meant.TypeParameter j) x is here = subst (λ (x : means.Meaning). IsVariable None (statements.variable_type f n x)) (sym is) tt
    variable_is others n (meant.ConstantParameter j) x is here = subst (λ (x : means.Meaning). IsVariable None (statements.variable_type f n x)) (sym is) tt
    variable_is others n (meant.Local t) x is here = subst (λ (x : means.Meaning). IsVariable (Some (type_inside k.tables.file others n t)) (statements.variable_type f n x)) (sym is) (here others)
    variable_is others n (meant.OwnOfRoutine t) x is here = subst (λ (x : means.Meaning). IsVariable (Some (type_inside k.tables.file others n t)) (statements.variable_type f n x)) (sym is) (here others)
    variable_is others n (meant.OwnOfCluster t) x is here = subst (λ (x : means.Meaning). IsVariable (Some (type_inside k.tables.file others n t)) (statements.variable_type f n x)) (sym is) (here others)
    variable_is others n meant.RoutineOfCluster x is here = subst (λ (x : means.Meaning). IsVariable None (statements.variable_type f n x)) (sym is) tt
    variable_is others n (meant.Module its) x is here = subst (λ (x : means.Meaning). IsVariable None (statements.variable_type f n x)) (sym is) tt

    targets_known : (n : ℕ) (j : NodeKind) (ms : List Meaning) → AreTargetsKnown f k n j ms → is_assigning j ≡ true → AllByRecursion (IsVariableKnown f k n) ms
    targets_known n kind.Assign ms all e = all
    targets_known n kind.For ms all e = all
    targets_known n _ ms all e = absurd (true≢false (sym e))

    module _ (targets : AreTargets f k) where
      bound_fits : (others : ℕ → Item) (n : ℕ) (j : NodeKind) → kind_at nodes n ≡ j → lost n ≡ false → AreTargetsKnown f k n j (meanings k n) → list_any (λ x. not (statements.may_name f x.variables x.objects)) (bindings_in f j n) ≡ of_tables.is_misfit k (binding_at k others j n)
      bound_fits others n j is here all =
          misfits_are (binding_at k others j n) (bindings_in f j n)
          (bound_is k scope library refused shaped tree are lost facts IsVariable (IsVariableKnown f k) others (inside.types others) (variable_is others) targets n here j is (targets_known n j (meanings k n) all))

      no_arm : (others : ℕ → Item) (n : ℕ) (j : NodeKind) → is_of kind.TagArm j ≡ false → of_tags.arm_misfits k others j n ≡ false
      no_arm others n kind.TagArm other = absurd (true≢false other)
      no_arm others n _ other = refl

      bound_by : (n : ℕ) (j : NodeKind) → is_of kind.TagArm j ≡ false → v15_in f j n ≡ list_any (λ x. not (statements.may_name f x.variables x.objects)) (bindings_in f j n)
      bound_by n kind.TagArm other = absurd (true≢false other)
      bound_by n _ other = refl

      pub v15_is : (others : ℕ → Item) (n : ℕ) → lost n ≡ false → AreTargetsKnown f k n (known.kind_in k n) (meanings k n) → IsFirstKnown f lost n → v15 f n ≡ of_tables.v15 k others n
      v15_is others n here all round = by (is_of kind.TagArm (kind_at nodes n)) refl
        where
          by : (b : Bool) → is_of kind.TagArm (kind_at nodes n) ≡ b → v15 f n ≡ of_tables.v15 k others n
          by true e =
              let is : kind_at nodes n ≡ kind.TagArm = same_kind kind.TagArm (kind_at nodes n) e in
              ap (λ (j : NodeKind). v15_in f j n) is
              ∙ arm_is others n is here round
              ∙ sym (or-false (of_tags.arm_misfits k others kind.TagArm n))
              ∙ ap (λ (j : NodeKind). of_tags.arm_misfits k others j n || of_tables.is_misfit k (binding_at k others j n)) (sym is)
          by false e =
              bound_by n (kind_at nodes n) e
              ∙ bound_fits others n (kind_at nodes n) refl here all
              ∙ ap (λ (b : Bool). b || of_tables.is_misfit k (binding_at k others (kind_at nodes n) n)) (sym (no_arm others n (kind_at nodes n) e))
