-- What is noted of an expression or a statement is what the definition invokes there.
use Rattle.std.proofs.Common.{◌≡◌, ℕ, Bool, true, false, List, [], ◌∷◌, ◌++◌, slice_get, codes, Option, Some, None, refl, sym, subst}
use Rattle.std.proofs.lemmas.Bool.{true≢false}
use Rattle.std.specs.Option.{option_and_then}
use Rattle.clu_tree.specs.declared.node.NodeKind.{NodeKind}
use Rattle.clu_tree.specs.declared.node.NodeKind.TheVariants as kind
use Rattle.clu_types.specs.CluType.{CluType}
use Rattle.clu_types.specs.declared.term.TypeId.{TypeId}
use Rattle.clu_types.specs.declared.term.Term.{Term}
use Rattle.clu_syntax.specs.declared.words.Operator.{Operator}
use Rattle.clu_syntax.specs.Syntax.{Identifier, Expression, an_infix, a_prefix, a_name, an_index, a_get, a_call, an_operation, Constants, Statement, a_set_field, a_set_index}
use Rattle.clu_meaning.specs.Constants.{Sugar, is_cand, is_cor, is_operation, is_negated as a_negated, sugar, prefix_name}
use Rattle.clu_bindings.specs.Tables.{optional}
use Rattle.clu_meaning.specs.Scoping.{Meaning, is_routine_of_cluster}
use Rattle.clu_meaning.specs.Settling.{type_settled}
use Rattle.clu_checking.specs.Files.{File, meaning}
use Rattle.clu_checking.specs.Headings.{own_type}
use Rattle.clu_checking.specs.Operations.{Found, operation_found}
use Rattle.clu_checking.specs.Typing.{type_of, name_type, found_type, result_of, takes_actuals}
use Rattle.clu_checking.specs.Invocations.{Invocation, by_sugar, negations, by_infix, by_call, by_index, by_expression, by_statement, types_of, types_of_indexes, own_routine}
use Rattle.clu_typing.specs.declared.applied.Use.{Use}
use Rattle.clu_typing.specs.declared.applied.Applied.{Applied}
use Rattle.clu_typing.specs.declared.applied.Applied.TheVariants as applied
use Rattle.clu_typing.specs.declared.facts.Facts.{Facts}
use Rattle.clu_typing.specs.Operators.{infix_operation, is_negated, prefix_operation}
use Rattle.clu_passes.specs.FactTables.{IsType, AreTypes}
use Rattle.clu_passes.specs.Sugar.{operation_of, negates}
use Rattle.clu_passes.specs.NotedLists.{Noted, nothing_noted, types_given, call_noted, children_noted, kind_noted, applied_noted, AreOnes, AreWhollyFound}
use Rattle.clu_passes.specs.StandsFor.{is_call, IsKindOf, operands_of_statement, named_of, IsNot, IsSugar, IsSugarIf, IsIndex, IsNamed, IsOwnNamed, StandsFor, StatementStandsFor, AreOperandsOf}
use Rattle.clu_passes.proofs.Sugared.{infix_said, negated_said, prefix_said}

module _ (f : File) (terms : List Term) (facts : Facts) (types : List (Option TypeId)) (k : NodeKind) (ns : List ℕ) where
  -- what is noted there is these invocations
  abbrev Ones : Applied → List Invocation → Type 0
  Ones its xs = AreOnes terms facts (applied_noted types its k ns).invoked xs

  abbrev Given : List (Option CluType) → Type 0
  Given ts = AreTypes terms (types_given types ns) ts

  no_call : is_call k ≡ false → kind_noted types k ns ≡ nothing_noted
  no_call = by k
    where
      by : (j : NodeKind) → is_call j ≡ false → kind_noted types j ns ≡ nothing_noted
      by kind.Call is = absurd (true≢false is)
      by _ is = refl

  nothing_ones : is_call k ≡ false → Ones applied.Nothing []
  nothing_ones is = subst (λ (x : Noted). AreOnes terms facts x.invoked []) (sym (no_call is)) tt

  none_ones : (its : Applied) → is_call k ≡ false → its ≡ applied.Nothing → Ones its []
  none_ones its is said = subst (λ (x : Applied). Ones x []) (sym said) (nothing_ones is)

  named_ones : (m : ℕ) (t : Option CluType) (name : Identifier) (its : Applied) → IsNamed f terms facts m t name its → Ones its []
  named_ones m (Some t) name (applied.Named (Some its)) said = tt
  named_ones m None name (applied.Named None) said = tt
  named_ones m (Some t) name (applied.Named None) said = absurd said
  named_ones m None name (applied.Named (Some its)) said = absurd said
  named_ones m (Some t) name applied.Nothing said = absurd said
  named_ones m None name applied.Nothing said = absurd said
  named_ones m (Some t) name (applied.Invoked first second) said = absurd said
  named_ones m None name (applied.Invoked first second) said = absurd said

  own_ones : (m : ℕ) (name : Identifier) (means : Meaning) (its : Applied) → is_call k ≡ false → IsOwnNamed f terms facts m name means its → Ones its []
  own_ones m name is_routine_of_cluster its is said = named_ones m (own_type f m) name its said
  own_ones m name _ its is said = none_ones its is said

  -- ---- sugar

  sugar_ones : (m : ℕ) (name : Identifier) (t : Option CluType) (rest : List (Option CluType)) (its : Applied) → is_call k ≡ false → IsSugar f terms facts false m name t its → Given (t ∷ rest) → Ones its (by_sugar f m name t rest)
  sugar_ones m name (Some t) rest (applied.Invoked first None) is said given = ((said.0.1, given, said.0.2), tt)
  sugar_ones m name (Some t) rest (applied.Invoked first (Some second)) is said given = absurd (let no : Some second ≡ None = said.1 in cc)
  sugar_ones m name (Some t) rest applied.Nothing is said given = absurd said
  sugar_ones m name (Some t) rest (applied.Named its) is said given = absurd said
  sugar_ones m name None rest applied.Nothing is said given = nothing_ones is
  sugar_ones m name None rest (applied.Invoked first second) is said given = absurd said
  sugar_ones m name None rest (applied.Named its) is said given = absurd said

  -- what a comparison gives, and what is invoked of it
  second_ones : (m : ℕ) (first : Use) (x : Invocation) (t : Option CluType) (second : Option Use) → IsNot f terms facts m t second → AreOnes terms facts (applied_noted types (applied.Invoked first None) k ns).invoked (x ∷ []) → AreOnes terms facts (applied_noted types (applied.Invoked first second) k ns).invoked (x ∷ (by_sugar f m (codes "not") t [] ++ []))
  second_ones m first x None None said one = one
  second_ones m first x None (Some second) said one = absurd said
  second_ones m first x (Some t) None said one = absurd said
  second_ones m first x (Some t) (Some second) said one = (one.0, ((said.1, (said.0, tt), said.2), tt))

  negated_ones : (m : ℕ) (name : Identifier) (t : Option CluType) (rest : List (Option CluType)) (its : Applied) → is_call k ≡ false → IsSugar f terms facts true m name t its → Given (t ∷ rest) → Ones its (by_sugar f m name t rest ++ negations f m (by_sugar f m name t rest))
  negated_ones m name (Some t) rest (applied.Invoked first second) is said given =
      second_ones m first (record { invoked = operation_found f m t name; arguments = Some t ∷ rest }) (option_and_then result_of (found_type (operation_found f m t name))) second said.1 ((said.0.1, given, said.0.2), tt)
  negated_ones m name (Some t) rest applied.Nothing is said given = absurd said
  negated_ones m name (Some t) rest (applied.Named its) is said given = absurd said
  negated_ones m name None rest applied.Nothing is said given = nothing_ones is
  negated_ones m name None rest (applied.Invoked first second) is said given = absurd said
  negated_ones m name None rest (applied.Named its) is said given = absurd said

  by_operator : (s : Sugar) (m : ℕ) (a b : Expression) (its : Applied) → is_call k ≡ false → IsSugarIf f terms facts (operation_of s) (negates s) m (type_of f a) its → Given (type_of f a ∷ type_of f b ∷ []) → Ones its (by_infix f m s a b)
  by_operator is_cand m a b its is said given = none_ones its is said
  by_operator is_cor m a b its is said given = none_ones its is said
  by_operator (is_operation name) m a b its is said given = sugar_ones m name (type_of f a) (type_of f b ∷ []) its is said given
  by_operator (a_negated name) m a b its is said given = negated_ones m name (type_of f a) (type_of f b ∷ []) its is said given

  infix_ones : (o : Operator) (m : ℕ) (a b : Expression) (its : Applied) → is_call k ≡ false → StandsFor f terms facts (an_infix m o a b) its → Given (type_of f a ∷ type_of f b ∷ []) → Ones its (by_infix f m (sugar o) a b)
  infix_ones o m a b its is said given =
      by_operator (sugar o) m a b its is
      (subst (λ (n : Bool). IsSugarIf f terms facts (operation_of (sugar o)) n m (type_of f a) its) (negated_said o)
      (subst (λ (name : Option Identifier). IsSugarIf f terms facts name (is_negated o) m (type_of f a) its) (infix_said o) said))
      given

  index_ones : (b : Bool) (m : ℕ) (t : Option CluType) (cs : Constants) (its : Applied) → is_call k ≡ false → IsIndex f terms facts b m t its → Given (t ∷ types_of_indexes f cs) → Ones its (by_index f b m t cs)
  index_ones true m t cs its is said given = none_ones its is said
  index_ones false m t cs its is said given = sugar_ones m (codes "fetch") t (types_of_indexes f cs) its is said given

  -- ---- calls

  call_of : (x : Option TypeId) (t : Option CluType) (cs : List ℕ) (ts : List (Option CluType)) → IsType terms x t → AreTypes terms (types_given types cs) ts → AreOnes terms facts (call_noted types x cs).invoked (by_call f t ts)
  call_of (Some of) (Some t) cs ts is given = ((is, given, refl), tt)
  call_of (Some of) None cs ts is given = absurd is
  call_of None (Some t) cs ts is given = absurd is
  call_of None None cs ts is given = tt

  called_ones : (cs : List ℕ) (t : Option CluType) (ts : List (Option CluType)) → AreTypes terms (types_given types cs) (t ∷ ts) → AreOnes terms facts (children_noted types cs).invoked (by_call f t ts)
  called_ones [] t ts given = absurd given
  called_ones (c ∷ cs) t ts given = call_of (optional (slice_get types c)) t cs ts given.0 given.1

  call_ones : (t : Option CluType) (ts : List (Option CluType)) (its : Applied) → k ≡ kind.Call → its ≡ applied.Nothing → Given (t ∷ ts) → Ones its (by_call f t ts)
  call_ones t ts its is said given =
      subst (λ (x : Applied). Ones x (by_call f t ts)) (sym said)
      (subst (λ (j : NodeKind). AreOnes terms facts (kind_noted types j ns).invoked (by_call f t ts)) (sym is) (called_ones ns t ts given))

  -- ---- expressions and statements

  pub expression_ones : (e : Expression) (its : Applied) → IsKindOf e k → StandsFor f terms facts e its → AreOperandsOf f terms (types_given types ns) e → Ones its (by_expression f e)
  expression_ones (an_infix m o a b) its is said given = infix_ones o m a b its is said given
  expression_ones (a_prefix m s e) its is said given =
      sugar_ones m (prefix_name s) (type_of f e) [] its is (subst (λ (name : Identifier). IsSugar f terms facts false m name (type_of f e) its) (prefix_said s) said) given
  expression_ones (an_index m (a_name j name) cs) its is said given = index_ones (takes_actuals f j name) m (name_type f j name) cs its is said given
  expression_ones (an_index m e cs) its is said given = sugar_ones m (codes "fetch") (type_of f e) (types_of_indexes f cs) its is said given
  expression_ones (a_get m e name) its is said given = sugar_ones m (codes "get_" ++ name) (type_of f e) [] its is said given
  expression_ones (a_call m e es) its is said given = call_ones (type_of f e) (types_of f es) its is said given
  expression_ones (an_operation m t name) its is said given = named_ones m (Some (type_settled f.scope t)) name its said
  expression_ones (a_name m name) its is said given = own_ones m name (meaning f m name) its is said
  expression_ones _ its is said given = none_ones its is said

  pub statement_ones : (s : Statement) (its : Applied) → is_call k ≡ false → StatementStandsFor f terms facts s its → Given (operands_of_statement f s) → Ones its (by_statement f s)
  statement_ones (a_set_field m r name e) its is said given = sugar_ones m (codes "set_" ++ name) (type_of f r) (type_of f e ∷ []) its is said given
  statement_ones (a_set_index m a i e) its is said given = sugar_ones m (codes "store") (type_of f a) (type_of f i ∷ type_of f e ∷ []) its is said given
  statement_ones _ its is said given = none_ones its is said

  -- ---- what is named

  abbrev Names : Applied → List (Option Found) → Type 0
  Names its xs = AreWhollyFound terms facts (applied_noted types its k ns).named xs

  call_named : (x : Option TypeId) (cs : List ℕ) → AreWhollyFound terms facts (call_noted types x cs).named []
  call_named (Some x) cs = tt
  call_named None cs = tt

  called_named : (cs : List ℕ) → AreWhollyFound terms facts (children_noted types cs).named []
  called_named [] = tt
  called_named (c ∷ cs) = call_named (optional (slice_get types c)) cs

  nothing_named : Names applied.Nothing []
  nothing_named = by k
    where
      by : (j : NodeKind) → AreWhollyFound terms facts (kind_noted types j ns).named []
      by kind.Call = called_named ns
      by _ = tt

  none_named : (its : Applied) → its ≡ applied.Nothing → Names its []
  none_named its said = subst (λ (x : Applied). Names x []) (sym said) nothing_named

  sugar_named : (negated : Bool) (m : ℕ) (name : Identifier) (t : Option CluType) (its : Applied) → IsSugar f terms facts negated m name t its → Names its []
  sugar_named negated m name (Some t) (applied.Invoked first None) said = tt
  sugar_named negated m name (Some t) (applied.Invoked first (Some second)) said = tt
  sugar_named negated m name (Some t) applied.Nothing said = absurd said
  sugar_named negated m name (Some t) (applied.Named its) said = absurd said
  sugar_named negated m name None applied.Nothing said = nothing_named
  sugar_named negated m name None (applied.Invoked first second) said = absurd said
  sugar_named negated m name None (applied.Named its) said = absurd said

  sugar_named_if : (name : Option Identifier) (negated : Bool) (m : ℕ) (t : Option CluType) (its : Applied) → IsSugarIf f terms facts name negated m t its → Names its []
  sugar_named_if (Some name) negated m t its said = sugar_named negated m name t its said
  sugar_named_if None negated m t its said = none_named its said

  index_named : (b : Bool) (m : ℕ) (t : Option CluType) (its : Applied) → IsIndex f terms facts b m t its → Names its []
  index_named true m t its said = none_named its said
  index_named false m t its said = sugar_named false m (codes "fetch") t its said

  operation_named : (m : ℕ) (t : CluType) (name : Identifier) (its : Applied) → IsNamed f terms facts m (Some t) name its → Names its (operation_found f m t name ∷ [])
  operation_named m t name (applied.Named (Some its)) said = ((said.1, said.2), tt)
  operation_named m t name (applied.Named None) said = absurd said
  operation_named m t name applied.Nothing said = absurd said
  operation_named m t name (applied.Invoked first second) said = absurd said

  own_named : (m : ℕ) (name : Identifier) (means : Meaning) (its : Applied) → IsOwnNamed f terms facts m name means its → Names its (own_routine f m name means)
  own_named m name is_routine_of_cluster its said = by (own_type f m) its said
    where
      by : (t : Option CluType) (its : Applied) → IsNamed f terms facts m t name its → Names its (option_and_then (λ x. operation_found f m x name) t ∷ [])
      by (Some t) its said = operation_named m t name its said
      by None (applied.Named None) said = ((tt, refl), tt)
      by None (applied.Named (Some its)) said = absurd said
      by None applied.Nothing said = absurd said
      by None (applied.Invoked first second) said = absurd said
  own_named m name _ its said = none_named its said

  pub expression_named : (e : Expression) (its : Applied) → StandsFor f terms facts e its → Names its (named_of f e)
  expression_named (an_infix m o a b) its said = sugar_named_if (infix_operation o) (is_negated o) m (type_of f a) its said
  expression_named (a_prefix m s e) its said = sugar_named false m (prefix_operation s) (type_of f e) its said
  expression_named (an_index m (a_name j name) cs) its said = index_named (takes_actuals f j name) m (name_type f j name) its said
  expression_named (an_index m e cs) its said = index_named false m (type_of f e) its said
  expression_named (a_get m e name) its said = sugar_named false m (codes "get_" ++ name) (type_of f e) its said
  expression_named (an_operation m t name) its said = operation_named m (type_settled f.scope t) name its said
  expression_named (a_name m name) its said = own_named m name (meaning f m name) its said
  expression_named _ its said = none_named its said

  pub statement_named : (s : Statement) (its : Applied) → StatementStandsFor f terms facts s its → Names its []
  statement_named (a_set_field m r name e) its said = sugar_named false m (codes "set_" ++ name) (type_of f r) its said
  statement_named (a_set_index m a i e) its said = sugar_named false m (codes "store") (type_of f a) its said
  statement_named _ its said = none_named its said
