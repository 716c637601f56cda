-- V26 of an exception of a heading: `failure` is listed with one string, as callers see it.
use Rattle.std.proofs.Common.{◌≡◌, ◌∙◌, ℕ, Bool, ◌&&◌, List, [], ◌∷◌, map, Option, Some, None, refl, sym, ap, ap₂, subst}
use Rattle.std.specs.Prelude.{not}
use Rattle.std.specs.List.{AllByRecursion}
use Rattle.std.proofs.Math.Bool.{and-false, and-true}
use Rattle.clu_tree.specs.declared.node.Node.{Node}
use Rattle.clu_tree.specs.declared.node.NodeKind.{NodeKind}
use Rattle.clu_tree.specs.declared.node.NodeKind.TheVariants as kind
use Rattle.clu_tree.specs.Nodes.{IsTree}
use Rattle.clu_parser.specs.Shape.{HaveForms}
use Rattle.clu_types.specs.CluType.{CluType, string_type}
use Rattle.clu_types.specs.declared.term.TypeId.{TypeId}
use Rattle.clu_types.specs.declared.term.Term.{Term}
use Rattle.clu_types.specs.declared.term.Term.TheVariants as term
use Rattle.clu_types.specs.Arena.{type_of, types_of, IsArena}
use Rattle.clu_layout.specs.SameType.{same_type, same_types}
use Rattle.clu_syntax.specs.Kinds.{kind_at, is_type}
use Rattle.clu_syntax.specs.Slots.{slots}
use Rattle.clu_syntax.specs.Splits.{first_name, children_of}
use Rattle.clu_syntax.specs.Syntax.{Identifier}
use Rattle.clu_syntax.specs.Items.{Item, types_at}
use Rattle.clu_syntax.specs.Nodes.{before, item_at, exception_of}
use Rattle.clu_parts.specs.Slots.{AreParts}
use Rattle.clu_settle.specs.Names.{names_of}
use Rattle.clu_settle.proofs.Shapes.{all_parts}
use Rattle.clu_meaning.specs.Scoping.{Scope}
use Rattle.clu_meaning.specs.Resolving.{heading_type}
use Rattle.clu_checking.specs.Specifications.{Specification}
use Rattle.clu_checking.specs.Files.{File, item}
use Rattle.clu_checking.specs.Headings.{for_callers, place_at, results_outside}
use Rattle.clu_checking.specs.ExceptionRules as checking
use Rattle.clu_checking.specs.ExceptionRules.{is_failure, one_string, v26, v26_in}
use Rattle.clu_bindings.specs.Inside.{type_outside}
use Rattle.clu_declares.proofs.Below.{before_is, item_there}
use Rattle.clu_declares.proofs.Facts.{There, there}
use Rattle.clu_type_rules.specs.declared.known.Known.{Known}
use Rattle.clu_type_rules.specs.Known as known
use Rattle.clu_type_rules.specs.Known.{term_of}
use Rattle.clu_type_rules.specs.ExceptionRules.{is_string, may_be_string, is_one_string, is_other_failure}
use Rattle.clu_type_rules.specs.Objects.{names}
use Rattle.clu_passes.specs.FactTables.{IsType}
use Rattle.clu_passes.specs.SeenTypes.{IsOutsideKnown}
use Rattle.clu_passes.proofs.FactNodes as so
use Rattle.clu_passes.proofs.FactTypes.{IsTerm, term_of_type}
use Rattle.clu_passes.proofs.OneName.{OneName, exception_name}

string_same : (types : List CluType) (its : Term) → same_type (type_of types its) string_type ≡ is_string its
string_same types term.Str = refl
string_same types _ = refl

module _ (k : Known) (scope : Scope) (library : List Specification) (refused : List ℕ) where
  abbrev nodes : List Node
  nodes = k.tables.file.syntax.now

  abbrev f : File
  f = so.f k scope library refused

  abbrev terms : List Term
  terms = k.tables.types.now

  module _ (shaped : HaveForms nodes) (tree : IsTree nodes) (arena : IsArena terms) where
    abbrev Told : ℕ → List ℕ → Type 0
    Told n cs = AllByRecursion (IsOutsideKnown f k n) cs

    is_string_type : (id : Option TypeId) (t : CluType) → IsType terms id (Some t) → same_type t string_type ≡ may_be_string (term_of k id)
    is_string_type None t is = absurd is
    is_string_type (Some id) t is =
        let x : IsTerm terms id t = term_of_type terms arena id t is.0 is.1 in
        ap (λ (t : CluType). same_type t string_type) x.is ∙ string_same (types_of terms) x.its ∙ ap may_be_string (sym x.there)

    one_same : (others : ℕ → Item) (n : ℕ) (cs : List ℕ) → AreParts nodes is_type n cs → Told n cs → same_types (results_outside f n (types_at (before n (item_at nodes)) cs)) one_string ≡ is_one_string k (map (type_outside k.tables.file others n) cs)
    one_same others n [] ps here = refl
    one_same others n (c ∷ []) ps here =
        and-true (same_type (for_callers (heading_type (place_at f n) (before n (item_at nodes) c).type)) string_type)
        ∙ ap (λ (i : Item). same_type (for_callers (heading_type (place_at f n) i.type)) string_type) (before_is nodes n c ps.0.0)
        ∙ is_string_type (type_outside k.tables.file others n c) (for_callers (heading_type (place_at f n) (item f c).type)) (here.0 others)
    one_same others n (c ∷ d ∷ cs) ps here = and-false (same_type (for_callers (heading_type (place_at f n) (before n (item_at nodes) c).type)) string_type)

    pub v26_is : (bad : ℕ → Bool) (others : ℕ → Item) (n : ℕ) → kind_at nodes n ≡ kind.Exc → Told n (known.children k n) → v26 f bad n ≡ is_other_failure k others n (names k n)
    v26_is bad others n is here =
        let x : There nodes n kind.Exc = there nodes n kind.Exc refl is in
        let one : OneName nodes n = exception_name nodes shaped n is in
        let kids : known.children k n ≡ x.node.children = ap children_of x.at in
        let ps : AreParts nodes is_type n x.node.children = all_parts nodes tree shaped is_type n x.node x.at (ap slots x.is) in
        let name : first_name x.node.names ≡ one.its = ap (λ (its : Option Node). first_name (names_of its)) (sym x.at) ∙ ap first_name one.is in
        ap (λ (j : NodeKind). v26_in f bad j n) is
        ∙ ap (λ (i : Item). checking.is_other_failure f bad i.exception) (item_there nodes n x.node x.at)
        ∙ ap (λ (j : NodeKind). checking.is_other_failure f bad (exception_of (before n (item_at nodes)) nodes n x.node j)) x.is
        ∙ ap₂ (λ (name : Identifier) (b : Bool). is_failure name && not b) name (one_same others n x.node.children ps (subst (Told n) kids here))
        ∙ ap (λ (cs : List ℕ). is_failure one.its && not (is_one_string k (map (type_outside k.tables.file others n) cs))) (sym kids)
        ∙ ap (is_other_failure k others n) (sym one.is)
