-- The types of the children of a node, by tables.
use Rattle.std.proofs.Common.{◌≡◌, ◌∙◌, ℕ, Bool, true, false, ◌&&◌, ◌||◌, if◌then◌else◌, List, [], ◌∷◌, Option, Some, None, refl, sym, ap, ap₂}
use Rattle.std.specs.Prelude.{not, is_some, is_none}
use Rattle.std.specs.List.{AllByRecursion, list_any}
use Rattle.clu_tree.specs.declared.node.Node.{Node}
use Rattle.clu_types.specs.CluType.{CluType, bool_type}
use Rattle.clu_types.specs.declared.term.TypeId.{TypeId}
use Rattle.clu_types.specs.declared.term.Term.{Term}
use Rattle.clu_types.specs.Arena.{types_of}
use Rattle.clu_syntax.specs.Kinds.{kind_at, is_expression}
use Rattle.clu_syntax.specs.Splits.{children_of}
use Rattle.clu_meaning.specs.Scoping.{Scope}
use Rattle.clu_checking.specs.Specifications.{Specification}
use Rattle.clu_checking.specs.Files.{File, item, node_children}
use Rattle.clu_checking.specs.Typing as checking
use Rattle.clu_checking.specs.ExpressionRules.{is_other_than}
use Rattle.clu_checking.specs.ExpressionRules as expressions
use Rattle.clu_checking.specs.StatementRules.{is_none_tagged, is_other_than_iterator}
use Rattle.clu_checking.specs.Invocations as wanting
use Rattle.clu_checking.specs.Wanted as wants
use Rattle.clu_bindings.specs.declared.wanted.Wanted.{Wanted as WantedThere}
use Rattle.clu_bindings.specs.declared.wanted.Wanted.TheVariants as wanted
use Rattle.clu_bindings.specs.Wanted as bound
use Rattle.clu_type_rules.specs.declared.known.Known.{Known}
use Rattle.clu_type_rules.specs.Known.{term_of, type_at, wanted_in, is_other_than_bool, is_iterator, tags_in}
use Rattle.clu_type_rules.specs.InvocationRules as of_tables
use Rattle.clu_type_rules.specs.StatementRules.{is_no_condition}
use Rattle.clu_passes.specs.ConstantTables.{file_with, wanted_told, AreTables, IsWantedKnown}
use Rattle.clu_passes.specs.FactTables.{typed, IsType, AreFacts}
use Rattle.clu_passes.proofs.FactTypes.{IsTerm, term_of_type, bool_same, iterator_same, tags_same}

-- ---- what is wanted

pub object_wanted : (w : WantedThere) → wanting.is_object_wanted (wanted_told w) ≡ bound.is_object_wanted w
object_wanted wanted.Object = refl
object_wanted wanted.Objects = refl
object_wanted wanted.LoopCall = refl
object_wanted wanted.Constant = refl
object_wanted wanted.Type = refl
object_wanted wanted.NameWithActuals = refl
object_wanted wanted.Nothing = refl

loop_wanted : (w : WantedThere) → expressions.is_loop_call (wanted_told w) ≡ of_tables.is_loop_call w
loop_wanted wanted.Object = refl
loop_wanted wanted.Objects = refl
loop_wanted wanted.LoopCall = refl
loop_wanted wanted.Constant = refl
loop_wanted wanted.Type = refl
loop_wanted wanted.NameWithActuals = refl
loop_wanted wanted.Nothing = refl

module _ (k : Known) (scope : Scope) (library : List Specification) (refused : List ℕ) where
  abbrev pub nodes : List Node
  nodes = k.tables.file.syntax.now

  abbrev pub f : File
  f = file_with k.tables.file scope library refused

  abbrev pub children_of_file : Option Node → List ℕ
  children_of_file its = node_children f its

  pub children_same : (its : Option Node) → node_children f its ≡ children_of its
  children_same None = refl
  children_same (Some node) = refl

  pub no_expression : (c : ℕ) → is_expression (kind_at nodes c) ≡ false → typed f c ≡ None
  no_expression c e = ap (λ (b : Bool). if◌then◌else◌ {A = Option CluType} b (checking.type_of f (item f c).expression) None) e

  pub an_expression : (c : ℕ) → is_expression (kind_at nodes c) ≡ true → typed f c ≡ checking.type_of f (item f c).expression
  an_expression c e = ap (λ (b : Bool). if◌then◌else◌ {A = Option CluType} b (checking.type_of f (item f c).expression) None) e

  module _ (are : AreTables f k.tables) where
    pub object_wanted_at : (n : ℕ) → IsWantedKnown k.tables.file n → wanting.is_object_wanted (wants.wanted f n) ≡ bound.is_object_wanted (wanted_in k n)
    object_wanted_at n known = sym (ap wanting.is_object_wanted (are.wanted n known)) ∙ object_wanted (wanted_in k n)

    pub loop_wanted_at : (n : ℕ) → IsWantedKnown k.tables.file n → expressions.is_loop_call (wants.wanted f n) ≡ of_tables.is_loop_call (wanted_in k n)
    loop_wanted_at n known = sym (ap expressions.is_loop_call (are.wanted n known)) ∙ loop_wanted (wanted_in k n)

    abbrev terms : List Term
    terms = k.tables.types.now

    -- ---- tests on types that are known

    no_condition : (of : Option TypeId) (t : Option CluType) → IsType terms of t → is_other_than bool_type t ≡ is_other_than_bool (term_of k of)
    no_condition None None is = refl
    no_condition None (Some t) is = absurd is
    no_condition (Some of) None is = absurd is
    no_condition (Some of) (Some t) is =
        let x : IsTerm terms of t = term_of_type terms are.arena of t is.0 is.1 in
        ap (λ (t : CluType). is_other_than bool_type (Some t)) x.is ∙ ap not (bool_same (types_of terms) x.its) ∙ ap is_other_than_bool (sym x.there)

    pub no_tags : (of : Option TypeId) (t : Option CluType) → IsType terms of t → is_none_tagged t ≡ (is_some of && is_none (tags_in (term_of k of)))
    no_tags None None is = refl
    no_tags None (Some t) is = absurd is
    no_tags (Some of) None is = absurd is
    no_tags (Some of) (Some t) is =
        let x : IsTerm terms of t = term_of_type terms are.arena of t is.0 is.1 in
        ap (λ (t : CluType). is_none_tagged (Some t)) x.is ∙ tags_same (types_of terms) x.its ∙ ap (λ (o : Option Term). is_none (tags_in o)) (sym x.there)

    pub no_iterator : (of : Option TypeId) (t : Option CluType) → IsType terms of t → is_other_than_iterator f t ≡ (is_some of && not (is_iterator (term_of k of)))
    no_iterator None None is = refl
    no_iterator None (Some t) is = absurd is
    no_iterator (Some of) None is = absurd is
    no_iterator (Some of) (Some t) is =
        let x : IsTerm terms of t = term_of_type terms are.arena of t is.0 is.1 in
        ap (λ (t : CluType). is_other_than_iterator f (Some t)) x.is ∙ ap not (iterator_same (types_of terms) x.its) ∙ ap (λ (o : Option Term). not (is_iterator o)) (sym x.there)

    module _ (lost : ℕ → Bool) (facts : AreFacts f terms k.facts.now lost) where
      -- a child has no condition's type
      pub other_at : (c : ℕ) → lost c ≡ false → is_other_than bool_type (typed f c) ≡ is_no_condition k c
      other_at c here = no_condition (type_at k c) (typed f c) (facts.types c here)

      pub some_other : (cs : List ℕ) → AllByRecursion (λ c. lost c ≡ false) cs → list_any (λ c. is_other_than bool_type (typed f c)) cs ≡ list_any (is_no_condition k) cs
      some_other [] here = refl
      some_other (c ∷ cs) here = ap₂ (λ (a b : Bool). a || b) (other_at c here.0) (some_other cs here.1)
