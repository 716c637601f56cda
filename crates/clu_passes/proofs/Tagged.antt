-- V21 by what is known of types.
use Rattle.std.proofs.Common.{◌≡◌, ◌∙◌, ℕ, Bool, true, false, ◌&&◌, if◌then◌else◌, List, ◌∷◌, drop, Option, Some, None, refl, sym, ap, subst}
use Rattle.std.specs.Prelude.{slice_get, is_some, is_none}
use Rattle.std.specs.List.{AllByRecursion}
use Rattle.clu_tree.specs.declared.node.Node.{Node}
use Rattle.clu_tree.specs.declared.node.NodeKind.{NodeKind}
use Rattle.clu_tree.specs.declared.node.NodeKind.TheVariants as kind
use Rattle.clu_tree.specs.Nodes.{IsTree}
use Rattle.clu_parser.specs.Shape.{HaveForms}
use Rattle.clu_types.specs.declared.term.TypeId.{TypeId}
use Rattle.clu_syntax.specs.Kinds.{kind_at, is_expression}
use Rattle.clu_syntax.specs.Slots.{Slot, any, body, slots}
use Rattle.clu_syntax.specs.Splits.{child, children_of, is_of}
use Rattle.clu_syntax.specs.Items.{Item}
use Rattle.clu_syntax.specs.Nodes.{before, item_at, statement_of}
use Rattle.clu_settle.proofs.Shapes.{FirstPart, first_part}
use Rattle.clu_meaning.specs.Scoping.{Scope}
use Rattle.clu_checking.specs.Specifications.{Specification}
use Rattle.clu_checking.specs.Files.{File, item}
use Rattle.clu_checking.specs.Typing as checking
use Rattle.clu_checking.specs.StatementRules as statements
use Rattle.clu_checking.specs.StatementRules.{is_none_tagged, v21, v21_in}
use Rattle.clu_declares.proofs.Below.{before_is, item_there}
use Rattle.clu_declares.proofs.Facts.{there}
use Rattle.clu_head.specs.There.{is_there}
use Rattle.clu_type_rules.specs.declared.known.Known.{Known}
use Rattle.clu_type_rules.specs.Known as known
use Rattle.clu_type_rules.specs.Known.{term_of, type_at, tags_in, first_type, is_node}
use Rattle.clu_type_rules.specs.StatementRules.{tagged_by, is_on_no_tags}
use Rattle.clu_passes.specs.ConstantTables.{AreTables}
use Rattle.clu_passes.specs.FactTables.{typed, IsType, AreFacts}
use Rattle.clu_passes.proofs.FactNodes as so
use Rattle.clu_passes.proofs.OwnPlaces.{there_is}

module _ (k : Known) (scope : Scope) (library : List Specification) (refused : List ℕ) where
  abbrev nodes : List Node
  nodes = k.tables.file.syntax.now

  abbrev f : File
  f = so.f k scope library refused

  -- what is known of the first child of a node, where that is an expression
  pub record FirstKnown (n c : ℕ) : Type 0 where
    pub code : first_type k (known.children k n) ≡ type_at k c
    pub definition : checking.type_of f (before n (item_at nodes) c).expression ≡ typed f c
    pub is : IsType k.tables.types.now (type_at k c) (typed f c)

  module _ (shaped : HaveForms nodes) (tree : IsTree nodes) (are : AreTables f k.tables) (lost : ℕ → Bool) (facts : AreFacts f k.tables.types.now k.facts.now lost) where
    pub first_known : (n : ℕ) (x : Node) (ss : List Slot) → slice_get nodes n ≡ Some x → FirstPart nodes tree shaped is_expression ss n x → lost n ≡ false → FirstKnown n (child 0 x)
    first_known n x ss at first here =
        let c : ℕ = child 0 x in
        let cs : known.children k n ≡ c ∷ drop 1 x.children = ap children_of at ∙ first.is in
        let all : AllByRecursion (λ c. lost c ≡ false) (c ∷ drop 1 x.children) =
        subst (AllByRecursion (λ c. lost c ≡ false)) (so.children_same k scope library refused (slice_get nodes n) ∙ cs) (facts.below n here) in
        record {
          code = ap (first_type k) cs;
          definition = ap (λ (i : Item). checking.type_of f i.expression) (before_is nodes n c first.first.0) ∙ sym (so.an_expression k scope library refused c first.first.1);
          is = facts.types c all.0;
        }

    abbrev tagless : Option TypeId → Bool
    tagless of = is_some of && is_none (tags_in (term_of k of))

    tagcase_is : (n : ℕ) → kind_at nodes n ≡ kind.Tagcase → lost n ≡ false → is_none_tagged (statements.tagged_by f (item f n).statement) ≡ is_on_no_tags k n
    tagcase_is n is here =
        let x = there nodes n kind.Tagcase refl is in
        let first = first_part nodes tree shaped is_expression (any (is_of kind.TagArm) ∷ body) n x.node x.at (ap slots x.is) in
        let its = first_known n x.node (any (is_of kind.TagArm) ∷ body) x.at first here in
        let here_is : is_node k kind.Tagcase n ≡ true = ap (is_there kind.Tagcase) x.at ∙ ap (is_of kind.Tagcase) x.is in
        let tagged : tagged_by k n ≡ type_at k (child 0 x.node) =
        ap (λ (b : Bool). if◌then◌else◌ {A = Option TypeId} b (first_type k (known.children k n)) None) here_is ∙ its.code in
        ap (λ (i : Item). is_none_tagged (statements.tagged_by f i.statement)) (item_there nodes n x.node x.at)
        ∙ ap (λ (its : NodeKind). is_none_tagged (statements.tagged_by f (statement_of (before n (item_at nodes)) nodes n x.node its))) x.is
        ∙ ap is_none_tagged its.definition
        ∙ so.no_tags k scope library refused are (type_at k (child 0 x.node)) (typed f (child 0 x.node)) its.is
        ∙ ap tagless (sym tagged)

    by_kind : (n : ℕ) → lost n ≡ false → (its : NodeKind) → kind_at nodes n ≡ its → v21_in f its n ≡ is_on_no_tags k n
    by_kind n here kind.Tagcase is = tagcase_is n is here
    by_kind n here _ is =
        let none : is_node k kind.Tagcase n ≡ false = sym (there_is kind.Tagcase refl (slice_get nodes n)) ∙ ap (is_of kind.Tagcase) is in
        sym (ap (λ (b : Bool). tagless (if◌then◌else◌ {A = Option TypeId} b (first_type k (known.children k n)) None)) none)

    pub v21_is : (n : ℕ) → lost n ≡ false → v21 f n ≡ is_on_no_tags k n
    v21_is n here = by_kind n here (kind_at nodes n) refl
