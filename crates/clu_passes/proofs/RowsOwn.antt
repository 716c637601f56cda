-- What is invoked at a node raises what the definitions say of the operation for which the node stands.
use Rattle.std.proofs.Common.{◌≡◌, ◌∙◌, ℕ, Bool, true, false, List, [], ◌∷◌, ◌++◌, codes, Option, Some, None, refl, sym, ap, ap₂, subst, append-nil}
use Rattle.std.proofs.lemmas.Bool.{true≢false}
use Rattle.clu_types.specs.CluType.{CluType, proc_of, iter_of, Signals, no_signals, signal_and}
use Rattle.clu_types.specs.Arena.{type_at, types_of}
use Rattle.clu_types.specs.declared.term.Term.{Term}
use Rattle.clu_types.specs.declared.term.TypeId.{TypeId}
use Rattle.clu_syntax.specs.Syntax.{Identifier, Expression, an_infix, a_prefix, a_name, an_index, a_get, an_operation, Statement, a_set_field, a_set_index}
use Rattle.clu_meaning.specs.Constants.{Sugar, is_cand, is_cor, is_operation, is_negated as a_negated, sugar, prefix_name}
use Rattle.clu_meaning.specs.Scoping.{Meaning, is_routine_of_cluster}
use Rattle.clu_meaning.specs.Settling.{type_settled}
use Rattle.clu_checking.specs.Files.{File, meaning}
use Rattle.clu_checking.specs.Headings.{own_type}
use Rattle.clu_checking.specs.Operations.{Found, operation_found}
use Rattle.clu_checking.specs.Raising as definition
use Rattle.clu_checking.specs.Raising.{Raise, by_infix, by_sugar, failure, invoked}
use Rattle.clu_checking.specs.Typing as typing
use Rattle.clu_checking.specs.Typing.{found_type, name_type, sugar_type, takes_actuals, type_of}
use Rattle.clu_typing.specs.declared.applied.Applied.{Applied}
use Rattle.clu_typing.specs.declared.applied.Applied.TheVariants as applied
use Rattle.clu_typing.specs.declared.applied.Use.{Use}
use Rattle.clu_typing.specs.declared.facts.Facts.{Facts}
use Rattle.clu_typing.specs.declared.facts.Operation.{Operation}
use Rattle.clu_typing.specs.declared.facts.Operation.TheVariants as operation
use Rattle.clu_typing.specs.Facts.{operation_type}
use Rattle.clu_typing.specs.Operators.{is_negated}
use Rattle.clu_typing.specs.Raises.{first_operation, invoked_told, second_operation}
use Rattle.clu_typing.specs.Raising as tables
use Rattle.clu_typing.specs.Raising.{invoked_by}
use Rattle.clu_passes.specs.FactTables.{IsFound, IsType}
use Rattle.clu_passes.specs.Raised.{has_actuals, own_raises_of}
use Rattle.clu_passes.specs.StandsFor.{IsIndex, IsNamed, IsNot, IsOwnNamed, IsSugar, IsSugarIf, StandsFor, StatementStandsFor}
use Rattle.clu_passes.specs.Sugar.{operation_of, negates}
use Rattle.clu_passes.proofs.Sugared.{infix_said, negated_said, prefix_said}

-- ---- by the type of what is invoked

same_listed : (ss : Signals) → tables.listed ss ≡ definition.listed ss
same_listed no_signals = refl
same_listed (signal_and name ts rest) = ap (λ (l : List Raise). (name, ts) ∷ l) (same_listed rest)

same_signals : (t : CluType) → tables.signals_of t ≡ typing.signals_of t
same_signals (proc_of args results ss) = refl
same_signals (iter_of args results ss) = refl
same_signals _ = refl

same_invoked : (t : CluType) → invoked_by t ≡ invoked (Some t)
same_invoked t = ap (λ (l : List Raise). failure ∷ l) (same_listed (tables.signals_of t) ∙ ap (λ (ss : Signals). definition.listed ss) (same_signals t))

pub typed_told : (terms : List Term) (of : Option TypeId) (t : Option CluType) → IsType terms of t → invoked_told terms of ≡ invoked t
typed_told terms (Some of) (Some t) is = same_invoked (type_at (types_of terms) of) ∙ ap (λ (t : CluType). invoked (Some t)) (sym is.1)
typed_told terms None None is = refl
typed_told terms (Some of) None is = absurd is
typed_told terms None (Some t) is = absurd is

module _ (f : File) (terms : List Term) (facts : Facts) where
  found_told : (its : Operation) (x : Option Found) → IsFound terms facts its x → invoked_told terms (operation_type facts its) ≡ invoked (found_type x)
  found_told operation.Missing None is = refl
  found_told operation.Missing (Some x) is = absurd is
  found_told (operation.Found id) None is = absurd is
  found_told (operation.Found id) (Some x) is = typed_told terms (operation_type facts (operation.Found id)) x.type is
  found_told (operation.Object of) None is = absurd is
  found_told (operation.Object of) (Some x) is = typed_told terms (Some of) x.type is

  -- ---- by that for which a node stands

  abbrev pub by_applied : Applied → List Raise
  by_applied its = invoked_told terms (first_operation facts its) ++ invoked_told terms (second_operation facts its)

  pub by_nothing : (its : Applied) → its ≡ applied.Nothing → by_applied its ≡ []
  by_nothing its is = ap (λ (x : Applied). by_applied x) is

  sugar_told : (m : ℕ) (name : Identifier) (t : Option CluType) (its : Applied) → IsSugar f terms facts false m name t its → by_applied its ≡ by_sugar f m name t
  sugar_told m name (Some t) (applied.Invoked first None) said = append-nil (invoked_told terms (operation_type facts first.operation)) ∙ found_told first.operation (operation_found f m t name) said.0.1
  sugar_told m name (Some t) (applied.Invoked first (Some second)) said = absurd (let no : Some second ≡ None = said.1 in cc)
  sugar_told m name (Some t) applied.Nothing said = absurd said
  sugar_told m name (Some t) (applied.Named its) said = absurd said
  sugar_told m name None applied.Nothing said = refl
  sugar_told m name None (applied.Invoked first second) said = absurd said
  sugar_told m name None (applied.Named its) said = absurd said

  -- `not` of what a comparison gives
  not_told : (m : ℕ) (first : Use) (t : Option CluType) (second : Option Use) → IsNot f terms facts m t second → invoked_told terms (second_operation facts (applied.Invoked first second)) ≡ by_sugar f m (codes "not") t
  not_told m first None None said = refl
  not_told m first None (Some second) said = absurd said
  not_told m first (Some t) None said = absurd said
  not_told m first (Some t) (Some second) said = found_told second.operation (operation_found f m t (codes "not")) said.1

  negated_told : (m : ℕ) (name : Identifier) (t : Option CluType) (its : Applied) → IsSugar f terms facts true m name t its → by_applied its ≡ by_sugar f m name t ++ by_sugar f m (codes "not") (sugar_type f m name t)
  negated_told m name (Some t) (applied.Invoked first second) said =
      ap₂ (λ (xs ys : List Raise). xs ++ ys) (found_told first.operation (operation_found f m t name) said.0.1) (not_told m first (sugar_type f m name (Some t)) second said.1)
  negated_told m name (Some t) applied.Nothing said = absurd said
  negated_told m name (Some t) (applied.Named its) said = absurd said
  negated_told m name None applied.Nothing said = refl
  negated_told m name None (applied.Invoked first second) said = absurd said
  negated_told m name None (applied.Named its) said = absurd said

  operator_told : (s : Sugar) (m : ℕ) (t : Option CluType) (its : Applied) → IsSugarIf f terms facts (operation_of s) (negates s) m t its → by_applied its ≡ by_infix f m s t
  operator_told is_cand m t its said = by_nothing its said
  operator_told is_cor m t its said = by_nothing its said
  operator_told (is_operation name) m t its said = sugar_told m name t its said
  operator_told (a_negated name) m t its said = negated_told m name t its said

  index_told : (b : Bool) (m : ℕ) (t : Option CluType) (its : Applied) → b ≡ false → IsIndex f terms facts b m t its → by_applied its ≡ by_sugar f m (codes "fetch") t
  index_told true m t its is said = absurd (true≢false is)
  index_told false m t its is said = sugar_told m (codes "fetch") t its said

  named_told : (m : ℕ) (t : Option CluType) (name : Identifier) (its : Applied) → IsNamed f terms facts m t name its → by_applied its ≡ []
  named_told m (Some t) name (applied.Named (Some its)) said = refl
  named_told m None name (applied.Named None) said = refl
  named_told m (Some t) name (applied.Named None) said = absurd said
  named_told m None name (applied.Named (Some its)) said = absurd said
  named_told m (Some t) name applied.Nothing said = absurd said
  named_told m None name applied.Nothing said = absurd said
  named_told m (Some t) name (applied.Invoked first second) said = absurd said
  named_told m None name (applied.Invoked first second) said = absurd said

  own_told : (m : ℕ) (name : Identifier) (means : Meaning) (its : Applied) → IsOwnNamed f terms facts m name means its → by_applied its ≡ []
  own_told m name is_routine_of_cluster its said = named_told m (own_type f m) name its said
  own_told m name _ its said = by_nothing its said

  -- ---- expressions and statements

  abbrev pub operated : Expression → List Raise
  operated (an_infix m o a b) = by_infix f m (sugar o) (type_of f a)
  operated (a_prefix m s e) = by_sugar f m (prefix_name s) (type_of f e)
  operated (an_index m e cs) = by_sugar f m (codes "fetch") (type_of f e)
  operated (a_get m e name) = by_sugar f m (codes "get_" ++ name) (type_of f e)
  operated _ = []

  pub expression_told : (e : Expression) (its : Applied) → has_actuals f e ≡ false → StandsFor f terms facts e its → by_applied its ≡ operated e
  expression_told (an_infix m o a b) its plain said =
      operator_told (sugar o) m (type_of f a) its
      (subst (λ (n : Bool). IsSugarIf f terms facts (operation_of (sugar o)) n m (type_of f a) its) (negated_said o)
      (subst (λ (name : Option Identifier). IsSugarIf f terms facts name (is_negated o) m (type_of f a) its) (infix_said o) said))
  expression_told (a_prefix m s e) its plain said =
      sugar_told m (prefix_name s) (type_of f e) its (subst (λ (name : Identifier). IsSugar f terms facts false m name (type_of f e) its) (prefix_said s) said)
  expression_told (an_index m (a_name k name) cs) its plain said = index_told (takes_actuals f k name) m (name_type f k name) its plain said
  expression_told (an_index m e cs) its plain said = sugar_told m (codes "fetch") (type_of f e) its said
  expression_told (a_get m e name) its plain said = sugar_told m (codes "get_" ++ name) (type_of f e) its said
  expression_told (an_operation m t name) its plain said = named_told m (Some (type_settled f.scope t)) name its said
  expression_told (a_name m name) its plain said = own_told m name (meaning f m name) its said
  expression_told _ its plain said = by_nothing its said

  pub statement_told : (s : Statement) (its : Applied) → StatementStandsFor f terms facts s its → by_applied its ≡ own_raises_of f s
  statement_told (a_set_field m r name e) its said = sugar_told m (codes "set_" ++ name) (type_of f r) its said
  statement_told (a_set_index m a i e) its said = sugar_told m (codes "store") (type_of f a) its said
  statement_told _ its said = by_nothing its said
