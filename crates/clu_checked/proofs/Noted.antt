-- What an accepted file is handed on with is what the definitions say of it: nothing is lost at its nodes, but at `cvt`.
use Rattle.std.proofs.Common.{◌≡◌, ◌∙◌, ◌+◌, ◌-◌, ◌^◌, ◌<◌, ◌≤◌, ◌||◌, if◌then◌else◌, ℕ, Bool, true, false, List, length, map, Option, Some, None, inl, inr, refl, sym, ap, ap₂, subst, arith}
use Rattle.std.specs.Prelude.{slice_get}
use Rattle.std.proofs.lemmas.Bool.{true≢false, cases_lt, or_cases}
use Rattle.std.proofs.lemmas.Option.{slice_get_past}
use Rattle.clu_base.specs.declared.constants.Const.{Const}
use Rattle.clu_tree.specs.declared.node.Node.{Node}
use Rattle.clu_tree.specs.declared.node.NodeKind.{NodeKind}
use Rattle.clu_tree.specs.declared.node.NodeKind.TheVariants as kind
use Rattle.clu_tree.specs.Nodes.{modules}
use Rattle.clu_parser.specs.Trees.{Text}
use Rattle.clu_types.specs.CluType.{CluType}
use Rattle.clu_types.specs.Arena.{types_of}
use Rattle.clu_types.specs.declared.spec.Spec.{Spec}
use Rattle.clu_types.specs.declared.term.Term.{Term}
use Rattle.clu_types.specs.declared.term.TypeId.{TypeId}
use Rattle.clu_syntax.specs.declared.round.Round.{Round}
use Rattle.clu_syntax.specs.Kinds.{is_expression, is_type, kind_of}
use Rattle.clu_syntax.specs.Rounds.{AreRounds}
use Rattle.clu_syntax.specs.Splits.{is_of}
use Rattle.clu_syntax.proofs.Unique.{unique}
use Rattle.clu_meaning.specs.Settling.{Value as Settled}
use Rattle.clu_checking.specs.Specifications.{Specification, specification_told}
use Rattle.clu_checking.specs.ConstantRules.{is_constant_value}
use Rattle.clu_checking.specs.Files.{File, is_kind, item, kind_in, plain_file}
use Rattle.clu_checking.specs.Invoked.{invoked_at}
use Rattle.clu_checking.specs.Settled.{value_settled}
use Rattle.clu_checking.specs.Typing as typing
use Rattle.clu_checking.specs.Typing.{is_type_value}
use Rattle.clu_checking.specs.Refusals.{checked_file, refusal, refused_nodes}
use Rattle.clu_declares.specs.Declares.{AreFew, IsParsed}
use Rattle.clu_settle.specs.declared.value.Value.{Value}
use Rattle.clu_settle.specs.declared.value.Value.TheVariants as value
use Rattle.clu_settle.specs.Lists.{type_id, value_of}
use Rattle.clu_settle.specs.Names.{is_constant}
use Rattle.clu_settle.specs.Values.{Agrees, IsWithin, told}
use Rattle.clu_settle.proofs.Within.{value_within}
use Rattle.clu_bindings.specs.declared.file.File.{File as Read}
use Rattle.clu_bindings.specs.Tables.{optional}
use Rattle.clu_head.specs.There.{is_there}
use Rattle.clu_typing.specs.declared.facts.Invoked.{Invoked}
use Rattle.clu_typing.specs.Typing.{IsType}
use Rattle.clu_typing.specs.Facts.{type_of}
use Rattle.clu_type_rules.specs.declared.known.Known.{Known}
use Rattle.clu_core.specs.declared.checked.Checked.{Checked}
use Rattle.clu_core.specs.declared.checked.NamedConstant.{NamedConstant}
use Rattle.clu_core.specs.declared.op_ref.OpRef.{OpRef}
use Rattle.clu_passes.specs.InvokedSaid.{IsSaidIf}
use Rattle.clu_passes.specs.Lost.{is_cvt_at, lost}
use Rattle.clu_passes.specs.Made.{IsWhole}
use Rattle.clu_passes.specs.Notes.{HaveParents}
use Rattle.clu_passes.specs.Trees.{IsFileOfTree}
use Rattle.clu_passes.proofs.AcceptedFine.{accepted_kept}
use Rattle.clu_passes.proofs.Joined.{table_at, table_size}
use Rattle.clu_passes.proofs.LostKnown.{expression_value, type_value}
use Rattle.clu_passes.proofs.OfParents.{have_parents}
use Rattle.clu_passes.proofs.Strings.{value_same}
use Rattle.clu_check_mod.specs.Answered.{IsNoted}
use Rattle.clu_check_mod.specs.Notes.{constant_at, constant_in, constants_of, denoted_at, denoted_of, operation_at, operation_if, operations_of}
use Rattle.clu_check_mod.specs.declared.walk.Extent.TheVariants as extent
use Rattle.clu_checked.specs.Checked.{IsLibrary, IsOfGrammar, file, known, tabled}
use Rattle.clu_checked.specs.Noted.{IsDenoted, IsHandedOn, IsNamed, IsOperation}
use Rattle.clu_checked.proofs.AcceptedNodes.{expression_apart, expression_kept, is_setting, no_stream, setting_kept}
use Rattle.clu_checked.proofs.Checks.{whole_first}
use Rattle.clu_checked.proofs.Filled.{others_known}
use Rattle.clu_checked.proofs.NotedOperations.{is_operating, none_meant, none_noted, operating, operation_told, said}
use Rattle.clu_checked.proofs.Told.{nodes_said, rounds_said, same, tabled_tree}
use Rattle.clu_checked.proofs.Whole.{last_arena, whole}

-- ---- what a value that is known says

denoted_so : (terms : List Term) (constants : List Const) (v : Value) (s : Settled) → (v ≡ value.Lost → ⊥) → IsWithin (length terms) (length constants) v → Agrees (told (types_of terms) constants v) s → IsDenoted terms (type_id v) s
denoted_so terms constants (value.Type id) s here within agrees = (within.0, agrees)
denoted_so terms constants value.Lost s here within agrees = absurd (here refl)
denoted_so terms constants value.Nothing s here within agrees = ap is_type_value agrees
denoted_so terms constants (value.Constant k) s here within agrees = ap is_type_value agrees
denoted_so terms constants (value.Parameter k) s here within agrees = ap is_type_value agrees

named_so : (terms : List Term) (constants : List Const) (v : Value) (s : Settled) → (v ≡ value.Lost → ⊥) → IsWithin (length terms) (length constants) v → Agrees (told (types_of terms) constants v) s → IsNamed constants (constant_in v) s
named_so terms constants (value.Constant k) s here within agrees = (within.1, agrees)
named_so terms constants (value.Parameter k) s here within agrees = agrees
named_so terms constants value.Lost s here within agrees = absurd (here refl)
named_so terms constants value.Nothing s here within agrees = ap is_constant_value agrees
named_so terms constants (value.Type id) s here within agrees = ap is_constant_value agrees

-- ---- nodes

there_named : (o : Option Node) → is_of kind.Name (kind_of o) ≡ true → is_there kind.Name o ≡ true
there_named None e = absurd (true≢false (sym e))
there_named (Some node) e = e

name_expression : (k : NodeKind) → is_of kind.Name k ≡ true → is_expression k ≡ true
name_expression kind.Name e = refl
name_expression kind.File e = absurd (true≢false (sym e))
name_expression _ e = absurd (true≢false (sym e))

module _ (t : Text) (nodes : List Node) (parsed : IsParsed t nodes) (library : List Spec) (checked : Checked) (noted : IsNoted nodes library checked)
    (few : AreFew nodes noted.is.rounds) (few_modules : length (modules nodes) + length library < 2 ^ 32 - 1) (grammar : IsOfGrammar nodes noted.is.rounds) (kept : IsLibrary library) where
  abbrev specs : List Specification
  specs = map specification_told library

  abbrev k : Known
  k = known nodes library extent.Whole None noted.is

  abbrev r : Read
  r = k.tables.file

  abbrev f : File
  f = tabled nodes library extent.Whole None noted.is specs

  abbrev gone : List ℕ
  gone = refused_nodes (plain_file r.syntax.now r.rounds.now specs)

  -- ---- nothing is lost

  nodes_are : r.syntax.now ≡ nodes
  nodes_are = nodes_said t nodes parsed library extent.Whole None noted.is specs

  rounds_are : r.rounds.now ≡ noted.is.rounds
  rounds_are = rounds_said t nodes parsed library extent.Whole None noted.is specs

  parsed_there : IsParsed t f.nodes
  parsed_there = subst (IsParsed t) (sym nodes_are) parsed

  parents : HaveParents f
  parents =
      have_parents t f parsed_there
      (subst (λ (ns : List Node). AreRounds ns r.rounds.now) (sym nodes_are) (subst (AreRounds nodes) (sym rounds_are) noted.is.surrounded))

  of_tree : IsFileOfTree f
  of_tree = tabled_tree t nodes parsed library extent.Whole None noted.is specs

  accepted : refusal f ≡ None
  accepted =
      ap (λ (g : File). refusal g) (sym (same t nodes parsed library extent.Whole None noted.is specs))
      ∙ sym (whole_first t nodes parsed noted.is.rounds noted.is.surrounded few library few_modules grammar kept None noted.is)

  inside_by : (test : NodeKind → Bool) → test kind.File ≡ false → (n : ℕ) → test (kind_in f n) ≡ true → n < length f.nodes
  inside_by test none n here = elim (cases_lt n (length f.nodes)) [
    | inl less ↦ less
    | inr past ↦ absurd (true≢false (sym here ∙ ap (λ (o : Option Node). test (kind_of o)) (slice_get_past f.nodes n past) ∙ none))
  ]

  constant_inside : (n : ℕ) → is_constant f.nodes n ≡ true → n < length f.nodes
  constant_inside n here = inside_by (λ j. is_expression j || is_type j) refl n here

  fine : (n : ℕ) → is_constant f.nodes n ≡ true → is_cvt_at f n ≡ false → lost f n ≡ false
  fine n here apart = accepted_kept f of_tree parents accepted n (constant_inside n here) here apart

  of_expression : (n : ℕ) → is_expression (kind_in f n) ≡ true → is_constant f.nodes n ≡ true
  of_expression n here = ap (λ (b : Bool). b || is_type (kind_in f n)) here

  -- ---- the types of expressions

  types_there : (n : ℕ) → is_expression (kind_in f n) ≡ true → IsType k.tables.types.now (type_of k.facts.now n) (typing.type_of f (item f n).expression)
  types_there n here =
      subst (IsType k.tables.types.now (type_of k.facts.now n))
      (ap (λ (b : Bool). if◌then◌else◌ {A = Option CluType} b (typing.type_of f (item f n).expression) None) here)
      ((others_known t nodes parsed library extent.Whole None noted.is few few_modules grammar kept).rules.facts.types n (expression_kept f of_tree parents accepted n (constant_inside n (of_expression n here)) here))

  types_handed : (n : ℕ) → is_expression (kind_in f n) ≡ true → IsType checked.types (optional (slice_get checked.type_of.items n)) (typing.type_of f (item f n).expression)
  types_handed n here =
      subst (λ (terms : List Term). IsType terms (optional (slice_get checked.type_of.items n)) (typing.type_of f (item f n).expression)) noted.types_are
      (subst (λ (ids : List (Option TypeId)). IsType k.tables.types.now (optional (slice_get ids n)) (typing.type_of f (item f n).expression)) (sym noted.type_of) (types_there n here))

  -- ---- operations

  kept_at : (n : ℕ) → n < length f.nodes → is_operating (kind_in f n) ≡ true → (b : Bool) → is_setting (kind_in f n) ≡ b → lost f n ≡ false
  kept_at n inside here true is = setting_kept f of_tree parents accepted n inside is
  kept_at n inside here false is = expression_kept f of_tree parents accepted n inside (sym (operating (kind_in f n) is) ∙ here)

  abbrev invoked_there : ℕ → Option Invoked
  invoked_there n = optional (slice_get k.facts.now.invoked.items n)

  said_there : (n : ℕ) → n < length f.nodes → (b : Bool) → is_operating (kind_in f n) ≡ b → IsSaidIf k.tables.types.now k.facts.now.finding.words (invoked_there n) (invoked_at f n)
  said_there n inside true is =
      said t nodes parsed library extent.Whole None noted.is few few_modules grammar kept n inside (kept_at n inside is (is_setting (kind_in f n)) refl)
  said_there n inside false is =
      subst (λ (o : Option Invoked). IsSaidIf k.tables.types.now k.facts.now.finding.words o (invoked_at f n)) (sym (none_noted t nodes parsed library extent.Whole None noted.is few few_modules grammar kept n is))
      (subst (IsSaidIf k.tables.types.now k.facts.now.finding.words None) (sym (none_meant f n (kind_in f n) is)) tt)

  operations_are : checked.op_of.items ≡ operations_of checked.types k.facts.now f.nodes
  operations_are = noted.op_of ∙ ap (operations_of checked.types k.facts.now) (sym nodes_are)

  operation_is : (n : ℕ) → n < length f.nodes → optional (slice_get checked.op_of.items n) ≡ operation_if checked.types k.facts.now.finding.words (invoked_there n)
  operation_is n inside =
      ap (λ (os : List (Option OpRef)). optional (slice_get os n)) operations_are ∙ ap optional (table_at (operation_at checked.types k.facts.now) (length f.nodes) n inside)

  -- behind the nodes there is none
  none_behind : (n : ℕ) → length f.nodes ≤ n → optional (slice_get checked.op_of.items n) ≡ None
  none_behind n past =
      ap (λ (os : List (Option OpRef)). optional (slice_get os n)) operations_are
      ∙ ap optional (slice_get_past (operations_of checked.types k.facts.now f.nodes) n (omega (arith, past, table_size (operation_at checked.types k.facts.now) (length f.nodes))))

  operations_inside : (n : ℕ) → n < length f.nodes → IsOperation checked.types (optional (slice_get checked.op_of.items n)) (invoked_at f n)
  operations_inside n inside =
      subst (λ (o : Option OpRef). IsOperation checked.types o (invoked_at f n)) (sym (operation_is n inside))
      (subst (λ (terms : List Term). IsOperation terms (operation_if terms k.facts.now.finding.words (invoked_there n)) (invoked_at f n)) noted.types_are
      (operation_told k.tables.types.now (last_arena t nodes parsed library extent.Whole None noted.is few few_modules) k.facts.now.finding.words (invoked_there n) (invoked_at f n)
      (said_there n inside (is_operating (kind_in f n)) refl) (no_stream t f of_tree parsed_there accepted n inside)))

  operations_handed : (n : ℕ) → IsOperation checked.types (optional (slice_get checked.op_of.items n)) (invoked_at f n)
  operations_handed n = elim (cases_lt n (length f.nodes)) [
    | inl inside ↦ operations_inside n inside
    | inr past ↦
        subst (λ (o : Option OpRef). IsOperation checked.types o (invoked_at f n)) (sym (none_behind n past))
        (none_meant f n (kind_in f n) (ap (λ (o : Option Node). is_operating (kind_of o)) (slice_get_past f.nodes n past)))
  ]

  -- ---- what expressions and types come to

  whole_there : IsWhole t k.tables specs gone
  whole_there = whole t nodes parsed library extent.Whole None noted.is few few_modules gone

  file_are : r ≡ noted.is.is.file
  file_are = noted.is.is.is.is.is.tables.file_is ∙ noted.is.is.is.file_is

  values_are : r.values.now ≡ noted.is.settled.values.items
  values_are = ap (λ (g : Read). g.values.now) file_are ∙ noted.is.is.values

  constants_are : r.constants.now ≡ checked.constants
  constants_are = ap (λ (g : Read). g.constants.now) file_are ∙ noted.is.is.constants ∙ sym noted.constants

  value_known : (n : ℕ) → is_constant f.nodes n ≡ true → is_cvt_at f n ≡ false → value_of r.values.now n ≡ value.Lost → ⊥
  value_known n here apart gone_there = elim (or_cases (is_expression (kind_in f n)) (is_type (kind_in f n)) here) [
    | inl expression ↦ expression_value t k.tables specs gone whole_there n (fine n here apart) expression (value_same r.values.now n ∙ gone_there)
    | inr type ↦ type_value t k.tables specs gone whole_there n (fine n here apart) type (value_same r.values.now n ∙ gone_there)
  ]

  agrees : (n : ℕ) → is_constant f.nodes n ≡ true → Agrees (told (types_of k.tables.types.now) r.constants.now (value_of r.values.now n)) (value_settled f.scope (item f n).constant)
  agrees n here = whole_there.made.file.values.each n here

  within : (n : ℕ) → IsWithin (length k.tables.types.now) (length r.constants.now) (value_of r.values.now n)
  within n = value_within (length k.tables.types.now) (length r.constants.now) r.values.now n whole_there.made.file.values.within

  denoted_is : (n : ℕ) → n < length f.nodes → optional (slice_get checked.denoted.items n) ≡ type_id (value_of r.values.now n)
  denoted_is n inside =
      ap (λ (ids : List (Option TypeId)). optional (slice_get ids n)) (noted.denoted ∙ ap₂ denoted_of (sym values_are) (sym nodes_are))
      ∙ ap optional (table_at (denoted_at r.values.now) (length f.nodes) n inside)

  denoted_handed : (n : ℕ) → is_constant f.nodes n ≡ true → is_cvt_at f n ≡ false → IsDenoted checked.types (optional (slice_get checked.denoted.items n)) (value_settled f.scope (item f n).constant)
  denoted_handed n here apart =
      subst (λ (terms : List Term). IsDenoted terms (optional (slice_get checked.denoted.items n)) (value_settled f.scope (item f n).constant)) noted.types_are
      (subst (λ (o : Option TypeId). IsDenoted k.tables.types.now o (value_settled f.scope (item f n).constant)) (sym (denoted_is n (constant_inside n here)))
      (denoted_so k.tables.types.now r.constants.now (value_of r.values.now n) (value_settled f.scope (item f n).constant) (value_known n here apart) (within n) (agrees n here)))

  named_is : (n : ℕ) → is_kind f kind.Name n ≡ true → n < length f.nodes → optional (slice_get checked.constant_of.items n) ≡ constant_in (value_of r.values.now n)
  named_is n name inside =
      ap (λ (all : List (Option NamedConstant)). optional (slice_get all n)) (noted.constant_of ∙ ap₂ constants_of (sym nodes_are) (sym values_are))
      ∙ ap optional (table_at (constant_at f.nodes r.values.now) (length f.nodes) n inside)
      ∙ ap (λ (b : Bool). if◌then◌else◌ {A = Option NamedConstant} b (constant_in (value_of r.values.now n)) None) (there_named (slice_get f.nodes n) name)

  constants_handed : (n : ℕ) → is_kind f kind.Name n ≡ true → IsNamed checked.constants (optional (slice_get checked.constant_of.items n)) (value_settled f.scope (item f n).constant)
  constants_handed n name =
      let expression : is_expression (kind_in f n) ≡ true = name_expression (kind_in f n) name in
      let here : is_constant f.nodes n ≡ true = of_expression n expression in
      subst (λ (cs : List Const). IsNamed cs (optional (slice_get checked.constant_of.items n)) (value_settled f.scope (item f n).constant)) constants_are
      (subst (λ (o : Option NamedConstant). IsNamed r.constants.now o (value_settled f.scope (item f n).constant)) (sym (named_is n name (constant_inside n here)))
      (named_so k.tables.types.now r.constants.now (value_of r.values.now n) (value_settled f.scope (item f n).constant) (value_known n here (expression_apart f n expression)) (within n) (agrees n here)))

  pub handed_on : IsHandedOn (file nodes library extent.Whole None noted.is specs) checked
  handed_on =
      subst (λ (g : File). IsHandedOn g checked) (sym (same t nodes parsed library extent.Whole None noted.is specs))
      (record { types = types_handed; operations = operations_handed; denoted = denoted_handed; constants = constants_handed })

-- so it is of each file of a text that is accepted
pub all_handed_on : (t : Text) (nodes : List Node) → IsParsed t nodes → (rounds : List Round) → AreRounds nodes rounds → AreFew nodes rounds → (library : List Spec) → length (modules nodes) + length library < 2 ^ 32 - 1 → IsOfGrammar nodes rounds → IsLibrary library
    → (checked : Checked) → IsNoted nodes library checked → IsHandedOn (checked_file nodes rounds (map specification_told library)) checked
all_handed_on t nodes parsed rounds are few library few_modules grammar kept checked noted =
    let one : noted.is.rounds ≡ rounds = unique nodes parsed.tree rounds are noted.is.rounds noted.is.surrounded in
    subst (λ (rs : List Round). IsHandedOn (checked_file nodes rs (map specification_told library)) checked) one
    (handed_on t nodes parsed library checked noted (subst (AreFew nodes) (sym one) few) few_modules (subst (IsOfGrammar nodes) (sym one) grammar) kept)
