-- V32 by what is known of types and of the cluster round a node.
use Rattle.std.proofs.Common.{◌≡◌, ◌∙◌, ◌<◌, ℕ, Bool, true, false, ◌&&◌, ◌||◌, if◌then◌else◌, List, [], ◌∷◌, length, codes, Option, Some, None, refl, sym, ap, ap₂, eqb-true, eq-eqb}
use Rattle.std.specs.Prelude.{◌==◌, not, is_some, is_none}
use Rattle.std.proofs.lemmas.Bool.{true≢false}
use Rattle.std.proofs.lemmas.Option.{slice_get_within}
use Rattle.clu_tree.specs.declared.node.Node.{Node}
use Rattle.clu_tree.specs.declared.node.NodeKind.{NodeKind}
use Rattle.clu_tree.specs.declared.node.NodeKind.TheVariants as kind
use Rattle.clu_tree.specs.Nodes.{IsTree}
use Rattle.clu_parser.specs.Shape.{HaveForms}
use Rattle.clu_types.specs.CluType.{CluType}
use Rattle.clu_types.specs.declared.term.TypeId.{TypeId}
use Rattle.clu_types.specs.declared.term.Term.{Term}
use Rattle.clu_types.specs.Arena.{type_at as type_in, types_of, IsArena}
use Rattle.clu_types.proofs.Arenas.{distinct}
use Rattle.clu_layout.specs.SameType.{same_type}
use Rattle.clu_layout.proofs.SameTypeLaws.{types_are, type_same}
use Rattle.clu_syntax.specs.Kinds.{kind_at, is_expression}
use Rattle.clu_syntax.specs.Slots.{one, slots}
use Rattle.clu_syntax.specs.Splits.{child}
use Rattle.clu_syntax.specs.Items.{Item}
use Rattle.clu_syntax.specs.Nodes.{before, item_at, expression_of}
use Rattle.clu_settle.proofs.Shapes.{first_part}
use Rattle.clu_meaning.specs.Scoping.{Scope}
use Rattle.clu_checking.specs.Specifications.{Specification}
use Rattle.clu_checking.specs.Files.{File, item, equate_named}
use Rattle.clu_checking.specs.Headings as headings
use Rattle.clu_checking.specs.Typing as typing
use Rattle.clu_checking.specs.Wanted as wants
use Rattle.clu_checking.specs.Invocations as wanting
use Rattle.clu_checking.specs.ExpressionRules as rules_of
use Rattle.clu_checking.specs.ExpressionRules.{v32, v32_at}
use Rattle.clu_bindings.specs.Inside.{own_type, representation}
use Rattle.clu_declares.proofs.Below.{item_there}
use Rattle.clu_declares.proofs.Facts.{There, there}
use Rattle.clu_type_rules.specs.declared.known.Known.{Known}
use Rattle.clu_type_rules.specs.Known as known
use Rattle.clu_type_rules.specs.Known.{type_at, first_type}
use Rattle.clu_type_rules.specs.ExpressionRules as of_tables
use Rattle.clu_type_rules.specs.ExpressionRules.{is_up_or_down_misplaced}
use Rattle.clu_passes.specs.ConstantTables.{AreTables, AreWantedKnown}
use Rattle.clu_passes.specs.FactTables.{typed, IsType, AreFacts, AreOwnTypes}
use Rattle.clu_passes.proofs.FactNodes as so
use Rattle.clu_passes.proofs.Tagged.{FirstKnown, first_known}

module _ (terms : List Term) (arena : IsArena terms) where
  abbrev its : TypeId → CluType
  its id = type_in (types_of terms) id

  -- two types of an arena are the same just if their numbers are
  pub same_numbers : (a b : TypeId) → a.0 < length terms → b.0 < length terms → same_type (its b) (its a) ≡ (a.0 == b.0)
  same_numbers a b in_a in_b = by (a.0 == b.0) refl (same_type (its b) (its a)) refl
    where
      by : (n : Bool) → (a.0 == b.0) ≡ n → (t : Bool) → same_type (its b) (its a) ≡ t → t ≡ n
      by true e true same = refl
      by true e false same =
          absurd (let number : a.0 ≡ b.0 = eqb-true a.0 b.0 e in
          let alike : its b ≡ its a = ap (λ (n : ℕ). type_in (types_of terms) (record { 0 = n })) (sym number) in
          let no : false ≡ true = sym same ∙ ap (λ (t : CluType). same_type t (its a)) alike ∙ type_same (its a) in
          true≢false (sym no))
      by false e true same =
          absurd (let alike : b ≡ a = distinct terms arena b a in_b in_a (types_are (its b) (its a) same) in
          let number : a.0 ≡ b.0 = ap (λ (id : TypeId). id.0) (sym alike) in
          let no : true ≡ false = sym (eq-eqb a.0 b.0 number) ∙ e in
          true≢false no)
      by false e false same = refl

  not_of : (wanted given : Option TypeId) (w g : Option CluType) → IsType terms wanted w → IsType terms given g → rules_of.is_not_of w g ≡ of_tables.is_not_of wanted given
  not_of None given None g w_is g_is = none given
    where
      none : (given : Option TypeId) → false ≡ of_tables.is_not_of None given
      none None = refl
      none (Some id) = refl
  not_of None given (Some w) g w_is g_is = absurd w_is
  not_of (Some a) given None g w_is g_is = absurd w_is
  not_of (Some a) None (Some w) None w_is g_is = refl
  not_of (Some a) None (Some w) (Some g) w_is g_is = absurd g_is
  not_of (Some a) (Some b) (Some w) None w_is g_is = absurd g_is
  not_of (Some a) (Some b) (Some w) (Some g) w_is g_is =
      ap₂ (λ (x y : CluType). not (same_type x y)) g_is.1 w_is.1 ∙ ap not (same_numbers a b w_is.0 g_is.0)

none_is : {A : Type 0} (o : Option A) → is_none o ≡ not (is_some o)
none_is None = refl
none_is (Some x) = refl

module _ (k : Known) (scope : Scope) (library : List Specification) (refused : List ℕ) where
  abbrev nodes : List Node
  nodes = k.tables.file.syntax.now

  abbrev f : File
  f = so.f k scope library refused

  abbrev terms : List Term
  terms = k.tables.types.now

  module _ (shaped : HaveForms nodes) (tree : IsTree nodes) (are : AreTables f k.tables) (lost : ℕ → Bool) (facts : AreFacts f terms k.facts.now lost) (own : AreOwnTypes f k lost) where
    own_none : (id : Option TypeId) (t : Option CluType) → IsType terms id t → is_none t ≡ is_none id
    own_none None None is = refl
    own_none None (Some t) is = absurd is
    own_none (Some id) None is = absurd is
    own_none (Some id) (Some t) is = refl

    no_rep : (n : ℕ) → n < length nodes → rules_of.has_no_rep f n ≡ of_tables.has_no_rep k.tables.file n
    no_rep n less =
        ap₂ (λ (a b : Bool). a || b)
        (own_none (own_type k.tables.file n) (headings.own_type f n) (own.own n))
        (none_is (equate_named f n (codes "rep")) ∙ ap not (sym (own.reps n less)))

    -- of the operand
    operand : (n c : ℕ) → n < length nodes → FirstKnown k scope library refused n c → (id : Option TypeId) (w : Option CluType) → IsType terms id w →
        (rules_of.has_no_rep f n || rules_of.is_not_of w (typing.type_of f (before n (item_at nodes) c).expression)) ≡ (of_tables.has_no_rep k.tables.file n || of_tables.is_not_of id (first_type k (known.children k n)))
    operand n c less its id w is =
        ap₂ (λ (a b : Bool). a || b) (no_rep n less)
        (ap (rules_of.is_not_of w) its.definition ∙ not_of terms are.arena id (type_at k c) w (typed f c) is its.is ∙ ap (of_tables.is_not_of id) (sym its.code))

    misplaced : AreWantedKnown k.tables.file lost → (n : ℕ) → lost n ≡ false → (kind_is : NodeKind) (x : There nodes n kind_is) (id : Option TypeId) → rules_of.is_misplaced f (expression_of (before n (item_at nodes)) nodes n x.node kind_is) ≡ (of_tables.has_no_rep k.tables.file n || of_tables.is_not_of id (first_type k (known.children k n))) → (wanting.is_object_wanted (wants.wanted f n) && rules_of.is_misplaced f (item f n).expression) ≡ of_tables.is_misplaced k n id
    misplaced wanted n here kind_is x id e =
        let same : rules_of.is_misplaced f (item f n).expression ≡ (of_tables.has_no_rep k.tables.file n || of_tables.is_not_of id (first_type k (known.children k n))) =
        ap (λ (i : Item). rules_of.is_misplaced f i.expression) (item_there nodes n x.node x.at)
        ∙ ap (λ (kind_is : NodeKind). rules_of.is_misplaced f (expression_of (before n (item_at nodes)) nodes n x.node kind_is)) x.is
        ∙ e in
        ap₂ (λ (a b : Bool). a && b) (so.object_wanted_at k scope library refused are n (wanted n here)) same

    first_of : (n : ℕ) (kind_is : NodeKind) (x : There nodes n kind_is) → slots kind_is ≡ one is_expression ∷ [] → lost n ≡ false → FirstKnown k scope library refused n (child 0 x.node)
    first_of n kind_is x only here =
        first_known k scope library refused shaped tree are lost facts n x.node [] x.at (first_part nodes tree shaped is_expression [] n x.node x.at (ap slots x.is ∙ only)) here

    by_kind : AreWantedKnown k.tables.file lost → (n : ℕ) → lost n ≡ false → (kind_is : NodeKind) → kind_at nodes n ≡ kind_is → v32_at f kind_is n ≡ is_up_or_down_misplaced k kind_is n
    by_kind wanted n here kind.Up is =
        let x = there nodes n kind.Up refl is in
        misplaced wanted n here kind.Up x (representation k.headed n) (operand n (child 0 x.node) (slice_get_within nodes n x.node x.at) (first_of n kind.Up x refl here) (representation k.headed n) (typing.representation f n) (own.represented n (slice_get_within nodes n x.node x.at) here))
    by_kind wanted n here kind.Down is =
        let x = there nodes n kind.Down refl is in
        misplaced wanted n here kind.Down x (own_type k.tables.file n) (operand n (child 0 x.node) (slice_get_within nodes n x.node x.at) (first_of n kind.Down x refl here) (own_type k.tables.file n) (headings.own_type f n) (own.own n))
    by_kind wanted n here _ is = refl

    pub v32_is : AreWantedKnown k.tables.file lost → (n : ℕ) → lost n ≡ false → v32 f n ≡ is_up_or_down_misplaced k (known.kind_in k n) n
    v32_is wanted n here = by_kind wanted n here (kind_at nodes n) refl
