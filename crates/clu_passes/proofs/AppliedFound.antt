-- The operation for which an expression stands, as it was found, is the one of the definitions.
use Rattle.std.proofs.Common.{◌≡◌, ◌<◌, ◌∙◌, ℕ, Bool, true, false, List, [], ◌∷◌, ◌++◌, codes, length, option_map, IfSome, Option, Some, None, refl, sym, ap, subst}
use Rattle.std.specs.Option.{option_and_then}
use Rattle.clu_types.specs.CluType.{CluType}
use Rattle.clu_types.specs.Arena.{IsArena, type_at, types_of}
use Rattle.clu_types.specs.declared.term.Term.{Term}
use Rattle.clu_types.specs.declared.term.TypeId.{TypeId}
use Rattle.clu_syntax.specs.Syntax.{Identifier, Expression, an_infix, a_prefix, a_name, an_index, a_get, an_operation}
use Rattle.clu_meaning.specs.Scoping as means
use Rattle.clu_meaning.specs.Scoping.{Scope}
use Rattle.clu_meaning.specs.Settling.{type_settled}
use Rattle.clu_checking.specs.Specifications.{Specification}
use Rattle.clu_checking.specs.Files.{File, cluster_round, meaning}
use Rattle.clu_checking.specs.Headings.{own_type}
use Rattle.clu_checking.specs.Operations.{Found, operation_found}
use Rattle.clu_checking.specs.Typing as typing
use Rattle.clu_checking.specs.Typing.{found_type, name_type, sugar_type, takes_actuals, type_of}
use Rattle.clu_bindings.specs.declared.file.Headed.{Headed}
use Rattle.clu_bindings.specs.declared.meaning.Meaning.{Meaning}
use Rattle.clu_bindings.specs.declared.meaning.Meaning.TheVariants as meant
use Rattle.clu_bindings.specs.Inside as bound
use Rattle.clu_bindings.specs.Readers.{children_in, meaning_in}
use Rattle.clu_operations.specs.declared.found.FoundId.{FoundId}
use Rattle.clu_operations.specs.Finding.{IsBelowIf, AreWithin, found_at}
use Rattle.clu_operations.specs.Told.{told}
use Rattle.clu_operations.proofs.Lasting.{type_below}
use Rattle.clu_typing.specs.declared.applied.Use.{Use}
use Rattle.clu_typing.specs.declared.applied.Applied.{Applied}
use Rattle.clu_typing.specs.declared.applied.Applied.TheVariants as applied
use Rattle.clu_typing.specs.declared.facts.Facts.{Facts}
use Rattle.clu_typing.specs.declared.facts.Operation.{Operation}
use Rattle.clu_typing.specs.declared.facts.Operation.TheVariants as operation
use Rattle.clu_typing.specs.Applied.{result_of}
use Rattle.clu_typing.specs.Facts.{operation_of, type_found}
use Rattle.clu_typing.specs.Found.{IsUseTold, IsUseToldIf, IsBehindTold, IsInvokedTold, IsNamedTold, IsAppliedTold}
use Rattle.clu_typing.specs.Nodes.{first_settled, first_type, has_actuals, type_of_first}
use Rattle.clu_typing.specs.Operators.{infix_operation, is_negated, prefix_operation}
use Rattle.clu_typing.specs.Stands.{index_stands, name_stands, operation_stands, operator_stands, stands_by}
use Rattle.clu_passes.specs.Ascending.{Ascends, AscendsIf, SpecificationsAscend}
use Rattle.clu_passes.specs.ConstantTables.{Means, file_with}
use Rattle.clu_passes.specs.FactTables.{AreTypes, IsAsking, IsFound, IsType, asks_found}
use Rattle.clu_passes.specs.FoundTold.{TellHeads, found_of}
use Rattle.clu_passes.specs.NodeTypes.{HasNames, number_of}
use Rattle.clu_passes.specs.NotedLists.{types_given}
use Rattle.clu_passes.specs.StandsFor.{AreOperandsOf, IsIndex, IsNamed, IsNot, IsOperation, IsOwnNamed, IsSecond, IsSugar, IsSugarIf, StandsFor}
use Rattle.clu_passes.proofs.AppliedTyped.{result_typed}
use Rattle.clu_passes.proofs.ExpressionsAscend.{expression_up, name_up, sugar_up}
use Rattle.clu_passes.proofs.HeadingsAscend.{place_up}
use Rattle.clu_passes.proofs.OperationsFound.{operation_same}
use Rattle.clu_passes.proofs.SettledAscend.{type_settled_ascends}
use Rattle.clu_passes.proofs.TermsAscend.{components_up}

-- a number of the arena is that of its type
pub type_is : (terms : List Term) (of : Option TypeId) → IsBelowIf (length terms) of → IsType terms of (option_map (type_at (types_of terms)) of)
type_is terms (Some id) lt = (lt, refl)
type_is terms None lt = tt

module _ (h : Headed) (scope : Scope) (library : List Specification) (refused : List ℕ) (terms : List Term) (arena : IsArena terms) (tell : TellHeads h (file_with h.file scope library refused) (types_of terms))
    (up : SpecificationsAscend library) (facts : Facts) (within : AreWithin (length terms) facts.finding) where
  abbrev f : File
  f = file_with h.file scope library refused

  abbrev types : List CluType
  types = types_of terms

  -- ---- what was found

  pub found_is : (found : Option FoundId) → IfSome found (λ id. id.0 < length facts.finding.founds.items) → (x : Option Found) → option_map found_of (option_map (told types facts.finding) found) ≡ x → IsFound terms facts (operation_of found) x
  found_is (Some id) there x e = subst (λ (x : Option Found). IsFound terms facts (operation.Found id) x) e (type_is terms (found_at facts.finding.founds.items id).of (type_below (length terms) facts.finding within id there))
  found_is None there x e = subst (λ (x : Option Found). IsFound terms facts operation.Missing x) e tt

  pub asking_is : (found : Option FoundId) (x : Option Found) → option_map found_of (option_map (told types facts.finding) found) ≡ x → IsAsking terms facts (operation_of found) x
  asking_is (Some id) x e = ap asks_found e
  asking_is None x e = ap asks_found e

  use_is : (n : ℕ) (of : TypeId) (name : Identifier) (its : Use) → Ascends (type_at types of) → IsUseTold h terms facts.finding n of name its → IsOperation f terms facts n (type_at types of) name its
  use_is n of name its ascends u = (
    subst (λ (o : TypeId). IsType terms (Some o) (Some (type_at types of))) (sym u.same) (u.told.within, refl),
    subst (λ (o : Operation). IsFound terms facts o (operation_found f n (type_at types of) name)) (sym u.told.is) (found_is u.told.found u.told.there (operation_found f n (type_at types of) name) so),
    subst (λ (o : Operation). IsAsking terms facts o (operation_found f n (type_at types of) name)) (sym u.told.is) (asking_is u.told.found (operation_found f n (type_at types of) name) so),
  )
    where
      so : option_map found_of (option_map (told types facts.finding) u.told.found) ≡ operation_found f n (type_at types of) name
      so = ap (option_map found_of) (u.told.tells (components_up (type_at types of) ascends)) ∙ operation_same h scope library refused terms arena tell facts.finding.words of u.told.within n its.name name u.named

  one_is : (n : ℕ) (id : TypeId) (t : CluType) (name : Identifier) (its : Use) → IsType terms (Some id) (Some t) → Ascends t → IsUseTold h terms facts.finding n id name its → IsOperation f terms facts n t name its
  one_is n id t name its is ascends u = subst (λ (t : CluType). IsOperation f terms facts n t name its) (sym is.1) (use_is n id name its (subst Ascends is.1 ascends) u)

  -- ---- what is invoked

  not_is : (n : ℕ) (of : Option TypeId) (t : Option CluType) → IsType terms of t → AscendsIf t → (second : Option Use) → IsUseToldIf h terms facts.finding n of (codes "not") second → IsNot f terms facts n t second
  not_is n (Some id) (Some t) is ascends (Some its) u = one_is n id t (codes "not") its is ascends u
  not_is n (Some id) (Some t) is ascends None u = absurd u
  not_is n None None is ascends (Some its) u = absurd u
  not_is n None None is ascends None u = tt
  not_is n (Some id) None is ascends second u = absurd is
  not_is n None (Some t) is ascends second u = absurd is

  second_is : (negated : Bool) (n : ℕ) (name : Identifier) (t : CluType) (first : Use) (second : Option Use) → AscendsIf (sugar_type f n name (Some t)) → IsFound terms facts first.operation (operation_found f n t name)
      → IsBehindTold h terms facts.finding n negated (result_of terms (type_found facts.finding first.operation)) second → IsSecond f terms facts negated n (option_and_then typing.result_of (found_type (operation_found f n t name))) second
  second_is true n name t first second ascends found u =
      not_is n (result_of terms (type_found facts.finding first.operation)) (option_and_then typing.result_of (found_type (operation_found f n t name)))
      (result_typed f terms arena facts first.operation (operation_found f n t name) found) ascends second u
  second_is false n name t first second ascends found u = u

  pub sugar : (negated : Bool) (n : ℕ) (name : Identifier) (of : Option TypeId) (t : Option CluType) → IsType terms of t → AscendsIf t → (its : Applied) → IsInvokedTold h terms facts.finding n of name negated its → IsSugar f terms facts negated n name t its
  sugar negated n name (Some id) (Some t) is ascends (applied.Invoked first second) u =
      let one : IsOperation f terms facts n t name first = one_is n id t name first is ascends u.0 in
      (one, second_is negated n name t first second (sugar_up f up n name (Some t) ascends) one.1 u.1)
  sugar negated n name (Some id) (Some t) is ascends applied.Nothing u = absurd u
  sugar negated n name (Some id) (Some t) is ascends (applied.Named its) u = absurd u
  sugar negated n name None None is ascends applied.Nothing u = tt
  sugar negated n name None None is ascends (applied.Invoked first second) u = absurd u
  sugar negated n name None None is ascends (applied.Named its) u = absurd u
  sugar negated n name (Some id) None is ascends its u = absurd is
  sugar negated n name None (Some t) is ascends its u = absurd is

  operator : (name : Option Identifier) (negated : Bool) (n : ℕ) (of : Option TypeId) (t : Option CluType) → IsType terms of t → AscendsIf t → (its : Applied) → IsAppliedTold h terms facts.finding n (operator_stands name negated of) its → IsSugarIf f terms facts name negated n t its
  operator (Some name) negated n of t is ascends its u = sugar negated n name of t is ascends its u
  operator None negated n of t is ascends its u = u

  indexed : (a b : Bool) → a ≡ b → (n : ℕ) (of : Option TypeId) (t : Option CluType) → IsType terms of t → AscendsIf t → (its : Applied) → IsAppliedTold h terms facts.finding n (index_stands a of) its → IsIndex f terms facts b n t its
  indexed a b e n of t is ascends its u = by b (subst (λ (a : Bool). IsAppliedTold h terms facts.finding n (index_stands a of) its) e u)
    where
      by : (b : Bool) → IsAppliedTold h terms facts.finding n (index_stands b of) its → IsIndex f terms facts b n t its
      by true u = u
      by false u = sugar false n (codes "fetch") of t is ascends its u

  -- ---- what is named

  named : (n : ℕ) (name : Identifier) (of : Option TypeId) (t : Option CluType) → IsType terms of t → AscendsIf t → (its : Applied) → IsNamedTold h terms facts.finding n of name its → IsNamed f terms facts n t name its
  named n name (Some id) (Some t) is ascends (applied.Named (Some its)) u = one_is n id t name its is ascends u
  named n name (Some id) (Some t) is ascends (applied.Named None) u = absurd u
  named n name (Some id) (Some t) is ascends applied.Nothing u = absurd u
  named n name (Some id) (Some t) is ascends (applied.Invoked first second) u = absurd u
  named n name None None is ascends (applied.Named None) u = tt
  named n name None None is ascends (applied.Named (Some its)) u = absurd u
  named n name None None is ascends applied.Nothing u = absurd u
  named n name None None is ascends (applied.Invoked first second) u = absurd u
  named n name (Some id) None is ascends its u = absurd is
  named n name None (Some t) is ascends its u = absurd is

  settled : (n : ℕ) (name : Identifier) (of : Option TypeId) (t : CluType) → IsType terms of (Some t) → Ascends t → (its : Applied) → IsAppliedTold h terms facts.finding n (operation_stands of name) its → IsNamed f terms facts n (Some t) name its
  settled n name (Some id) t is ascends its u = named n name (Some id) (Some t) is ascends its u
  settled n name None t is ascends its u = absurd is

  -- a name that is no routine of the cluster stands for nothing
  own_named : (n m : ℕ) → m ≡ n → (name : Identifier) (of : Option TypeId) → IsType terms of (own_type f m) → (a : Meaning) (x : means.Meaning) → Means f.nodes a x → (its : Applied) → IsAppliedTold h terms facts.finding n (name_stands a of name) its → IsOwnNamed f terms facts m name x its
  own_named n m at name of is meant.RoutineOfCluster x e its u =
      subst (λ (x : means.Meaning). IsOwnNamed f terms facts m name x its) (sym e)
      (subst (λ (k : ℕ). IsNamed f terms facts k (own_type f m) name its) (sym at) (named n name of (own_type f m) is (place_up f (cluster_round f m)) its u))
  own_named n m at name of is (meant.Equate c) x e its u = subst (λ (x : means.Meaning). IsOwnNamed f terms facts m name x its) (sym e.1) u
  own_named n m at name of is meant.TypeSet x e its u = subst (λ (x : means.Meaning). IsOwnNamed f terms facts m name x its) (sym e) u
  own_named n m at name of is (meant.TypeParameter k) x e its u = subst (λ (x : means.Meaning). IsOwnNamed f terms facts m name x its) (sym e) u
  own_named n m at name of is (meant.ConstantParameter k) x e its u = subst (λ (x : means.Meaning). IsOwnNamed f terms facts m name x its) (sym e) u
  own_named n m at name of is (meant.Local t) x e its u = subst (λ (x : means.Meaning). IsOwnNamed f terms facts m name x its) (sym e) u
  own_named n m at name of is (meant.OwnOfRoutine t) x e its u = subst (λ (x : means.Meaning). IsOwnNamed f terms facts m name x its) (sym e) u
  own_named n m at name of is (meant.OwnOfCluster t) x e its u = subst (λ (x : means.Meaning). IsOwnNamed f terms facts m name x its) (sym e) u
  own_named n m at name of is (meant.Module id) x e its u = subst (λ (x : means.Meaning). IsOwnNamed f terms facts m name x its) (sym e) u

  -- ---- expressions

  module _ (known : List (Option TypeId)) where
    -- the first of the operands
    pub first_is : (cs : List ℕ) (t : Option CluType) (ts : List (Option CluType)) → AreTypes terms (types_given known cs) (t ∷ ts) → IsType terms (type_of_first known cs) t
    first_is [] t ts given = absurd given
    first_is (c ∷ cs) t ts given = given.0

    pub stands_so : (n : ℕ) (e : Expression) → number_of e ≡ n → AreOperandsOf f terms (types_given known (children_in h.file n)) e → HasNames f h terms n e → (its : Applied) → IsAppliedTold h terms facts.finding n (stands_by h.file known n e) its → StandsFor f terms facts e its
    unfolding stands_by
    stands_so n (an_infix m o a b) at given names its u =
        subst (λ (k : ℕ). IsSugarIf f terms facts (infix_operation o) (is_negated o) k (type_of f a) its) (sym at)
        (operator (infix_operation o) (is_negated o) n (first_type h.file known n) (type_of f a) (first_is (children_in h.file n) (type_of f a) _ given) (expression_up f up a) its u)
    stands_so n (a_prefix m s e) at given names its u =
        subst (λ (k : ℕ). IsSugar f terms facts false k (prefix_operation s) (type_of f e) its) (sym at)
        (sugar false n (prefix_operation s) (first_type h.file known n) (type_of f e) (first_is (children_in h.file n) (type_of f e) _ given) (expression_up f up e) its u)
    stands_so n (an_index m (a_name k name) cs) at given names its u =
        subst (λ (j : ℕ). IsIndex f terms facts (takes_actuals f k name) j (name_type f k name) its) (sym at)
        (indexed (has_actuals h.file n) (takes_actuals f k name) names n (first_type h.file known n) (name_type f k name) (first_is (children_in h.file n) (name_type f k name) _ given) (name_up f up k name) its u)
    stands_so n (an_index m e cs) at given names its u =
        subst (λ (j : ℕ). IsIndex f terms facts false j (type_of f e) its) (sym at)
        (indexed (has_actuals h.file n) false names n (first_type h.file known n) (type_of f e) (first_is (children_in h.file n) (type_of f e) _ given) (expression_up f up e) its u)
    stands_so n (a_get m e name) at given names its u =
        subst (λ (k : ℕ). IsSugar f terms facts false k (codes "get_" ++ name) (type_of f e) its) (sym at)
        (sugar false n (codes "get_" ++ name) (first_type h.file known n) (type_of f e) (first_is (children_in h.file n) (type_of f e) _ given) (expression_up f up e) its u)
    stands_so n (an_operation m t name) at given names its u =
        subst (λ (k : ℕ). IsNamed f terms facts k (Some (type_settled f.scope t)) name its) (sym at) (settled n name (first_settled h.file n) (type_settled f.scope t) names (type_settled_ascends f.scope t) its u)
    stands_so n (a_name m name) at given names its u = own_named n m at name (bound.own_type h.file n) names.0 (meaning_in h.file n) (meaning f m name) names.1 its u
    stands_so n _ at given names its u = u
