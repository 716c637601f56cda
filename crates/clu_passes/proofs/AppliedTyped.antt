-- That for which an expression stands gives the type that the expression is to have.
use Rattle.std.proofs.Common.{◌≡◌, ℕ, Bool, true, false, List, ◌++◌, codes, Option, Some, None, refl, sym, subst}
use Rattle.std.proofs.lemmas.Bool.{true≢false}
use Rattle.std.specs.Option.{option_and_then}
use Rattle.clu_types.specs.CluType.{CluType}
use Rattle.clu_types.specs.declared.term.Term.{Term}
use Rattle.clu_types.specs.Arena.{IsArena}
use Rattle.clu_syntax.specs.Syntax.{Identifier, Expression, an_infix, a_prefix, a_name, an_index, a_get, an_operation, Constants}
use Rattle.clu_meaning.specs.Constants.{Sugar, is_cand, is_cor, is_operation, is_negated as a_negated, sugar, prefix_name}
use Rattle.clu_meaning.specs.Scoping.{Meaning, is_routine_of_cluster}
use Rattle.clu_meaning.specs.Settling.{type_settled}
use Rattle.clu_checking.specs.Files.{File, meaning}
use Rattle.clu_checking.specs.Headings.{own_type}
use Rattle.clu_checking.specs.Operations.{Found, operation_found}
use Rattle.clu_checking.specs.Typing as typing
use Rattle.clu_checking.specs.Typing.{type_of, name_type, found_type, sugar_type, own_found, takes_actuals}
use Rattle.clu_typing.specs.declared.applied.Use.{Use}
use Rattle.clu_typing.specs.declared.applied.Applied.{Applied}
use Rattle.clu_typing.specs.declared.applied.Applied.TheVariants as applied
use Rattle.clu_typing.specs.declared.facts.Facts.{Facts}
use Rattle.clu_typing.specs.declared.facts.Operation.{Operation}
use Rattle.clu_typing.specs.declared.facts.Operation.TheVariants as operation
use Rattle.clu_typing.specs.Facts.{operation_type}
use Rattle.clu_typing.specs.Applied.{result_of}
use Rattle.clu_typing.specs.Operators.{is_negated}
use Rattle.clu_typing.specs.Typing.{applied_type}
use Rattle.clu_passes.specs.Sugar.{operation_of, negates}
use Rattle.clu_passes.specs.FactTables.{IsType, IsFound}
use Rattle.clu_passes.specs.StandsFor.{HasOperation, IsNot, IsSugar, IsSugarIf, IsIndex, IsNamed, IsOwnNamed, StandsFor}
use Rattle.clu_passes.proofs.Results.{results_same}
use Rattle.clu_passes.proofs.Sugared.{infix_said, negated_said, prefix_said}

module _ (f : File) (terms : List Term) (arena : IsArena terms) (facts : Facts) where
  -- the type of what was found
  pub found_typed : (its : Operation) (x : Option Found) → IsFound terms facts its x → IsType terms (operation_type facts its) (found_type x)
  found_typed operation.Missing None is = tt
  found_typed operation.Missing (Some x) is = absurd is
  found_typed (operation.Found id) None is = absurd is
  found_typed (operation.Found id) (Some x) is = is
  found_typed (operation.Object of) None is = absurd is
  found_typed (operation.Object of) (Some x) is = is

  -- of what is invoked it is that of the only result
  pub result_typed : (its : Operation) (x : Option Found) → IsFound terms facts its x → IsType terms (result_of terms (operation_type facts its)) (option_and_then typing.result_of (found_type x))
  result_typed its x is = results_same terms arena (operation_type facts its) (found_type x) (found_typed its x is)

  abbrev Typed : Applied → Option CluType → Type 0
  Typed its t = IsType terms (applied_type terms facts.finding its) t

  sugar_typed : (m : ℕ) (name : Identifier) (t : Option CluType) (its : Applied) → IsSugar f terms facts false m name t its → Typed its (sugar_type f m name t)
  sugar_typed m name (Some t) (applied.Invoked first None) said = result_typed first.operation (operation_found f m t name) said.0.1
  sugar_typed m name (Some t) (applied.Invoked first (Some second)) said = absurd (let no : Some second ≡ None = said.1 in cc)
  sugar_typed m name (Some t) applied.Nothing said = absurd said
  sugar_typed m name (Some t) (applied.Named its) said = absurd said
  sugar_typed m name None applied.Nothing said = tt
  sugar_typed m name None (applied.Invoked first second) said = absurd said
  sugar_typed m name None (applied.Named its) said = absurd said

  not_typed : (m : ℕ) (first : Use) (t : Option CluType) (second : Option Use) → IsNot f terms facts m t second → IsType terms (result_of terms (operation_type facts first.operation)) t → Typed (applied.Invoked first second) (sugar_type f m (codes "not") t)
  not_typed m first None None said is = is
  not_typed m first None (Some second) said is = absurd said
  not_typed m first (Some t) None said is = absurd said
  not_typed m first (Some t) (Some second) said is = result_typed second.operation (operation_found f m t (codes "not")) said.1

  negated_typed : (m : ℕ) (name : Identifier) (t : Option CluType) (its : Applied) → IsSugar f terms facts true m name t its → Typed its (sugar_type f m (codes "not") (sugar_type f m name t))
  negated_typed m name (Some t) (applied.Invoked first second) said =
      not_typed m first (sugar_type f m name (Some t)) second said.1 (result_typed first.operation (operation_found f m t name) said.0.1)
  negated_typed m name (Some t) applied.Nothing said = absurd said
  negated_typed m name (Some t) (applied.Named its) said = absurd said
  negated_typed m name None applied.Nothing said = tt
  negated_typed m name None (applied.Invoked first second) said = absurd said
  negated_typed m name None (applied.Named its) said = absurd said

  named_typed : (m : ℕ) (t : CluType) (name : Identifier) (its : Applied) → IsNamed f terms facts m (Some t) name its → Typed its (found_type (operation_found f m t name))
  named_typed m t name (applied.Named (Some its)) said = found_typed its.operation (operation_found f m t name) said.1
  named_typed m t name (applied.Named None) said = absurd said
  named_typed m t name applied.Nothing said = absurd said
  named_typed m t name (applied.Invoked first second) said = absurd said

  -- the routine of the cluster round a node
  own_typed : (m : ℕ) (name : Identifier) (its : Applied) → IsNamed f terms facts m (own_type f m) name its → Typed its (found_type (own_found f m name))
  own_typed m name its said = by (own_type f m) its said
    where
      by : (t : Option CluType) (its : Applied) → IsNamed f terms facts m t name its → Typed its (found_type (option_and_then (λ x. operation_found f m x name) t))
      by (Some t) its said = named_typed m t name its said
      by None (applied.Named None) said = tt
      by None (applied.Named (Some its)) said = absurd said
      by None applied.Nothing said = absurd said
      by None (applied.Invoked first second) said = absurd said

  operator_typed : (s : Sugar) (m : ℕ) (t : Option CluType) (its : Applied) → (operation_of s ≡ None → ⊥) → IsSugarIf f terms facts (operation_of s) (negates s) m t its → Typed its (typing.infix_type f m s t)
  operator_typed is_cand m t its some said = absurd (some refl)
  operator_typed is_cor m t its some said = absurd (some refl)
  operator_typed (is_operation name) m t its some said = sugar_typed m name t its said
  operator_typed (a_negated name) m t its some said = negated_typed m name t its said

  -- ---- by expressions

  index_typed : (b : Bool) (m k : ℕ) (name : Identifier) (cs : Constants) (its : Applied) → b ≡ false → IsIndex f terms facts b m (name_type f k name) its → Typed its (typing.index_type f b m k name cs)
  index_typed true m k name cs its is said = absurd (true≢false is)
  index_typed false m k name cs its is said = sugar_typed m (codes "fetch") (name_type f k name) its said

  own_name_typed : (m : ℕ) (name : Identifier) (means : Meaning) (its : Applied) → means ≡ is_routine_of_cluster → IsOwnNamed f terms facts m name means its → Typed its (typing.type_of_meaning f m name means)
  own_name_typed m name means its is said =
      subst (λ (x : Meaning). Typed its (typing.type_of_meaning f m name x)) (sym is) (own_typed m name its (subst (λ (x : Meaning). IsOwnNamed f terms facts m name x its) is said))

  pub applied_typed : (e : Expression) (its : Applied) → HasOperation f e → StandsFor f terms facts e its → Typed its (type_of f e)
  applied_typed (an_infix m o a b) its some said =
      operator_typed (sugar o) m (type_of f a) its some
      (subst (λ (n : Bool). IsSugarIf f terms facts (operation_of (sugar o)) n m (type_of f a) its) (negated_said o)
      (subst (λ (name : Option Identifier). IsSugarIf f terms facts name (is_negated o) m (type_of f a) its) (infix_said o) said))
  applied_typed (a_prefix m s e) its some said =
      sugar_typed m (prefix_name s) (type_of f e) its (subst (λ (name : Identifier). IsSugar f terms facts false m name (type_of f e) its) (prefix_said s) said)
  applied_typed (an_index m (a_name k name) cs) its some said = index_typed (takes_actuals f k name) m k name cs its some said
  applied_typed (an_index m e cs) its some said = sugar_typed m (codes "fetch") (type_of f e) its said
  applied_typed (a_get m e name) its some said = sugar_typed m (codes "get_" ++ name) (type_of f e) its said
  applied_typed (an_operation m t name) its some said = named_typed m (type_settled f.scope t) name its said
  applied_typed (a_name m name) its some said = own_name_typed m name (meaning f m name) its some said
  applied_typed _ its some said = absurd some
