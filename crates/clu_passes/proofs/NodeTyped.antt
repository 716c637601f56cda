-- The type that is noted of an expression is its type, where that for which it stands and what stands in it are so.
use Rattle.std.proofs.Common.{◌≡◌, ◌∙◌, ℕ, Bool, true, false, List, length, Option, Some, None, refl, sym, ap, subst, arith}
use Rattle.std.specs.Option.{option_and_then}
use Rattle.clu_types.specs.CluType.{CluType}
use Rattle.clu_types.specs.declared.term.Term.{Term}
use Rattle.clu_types.specs.declared.term.TypeId.{TypeId}
use Rattle.clu_types.specs.Arena.{type_at, types_of, IsArena, Grows}
use Rattle.clu_types.proofs.Arenas.{types_grown}
use Rattle.clu_types.proofs.Carrying.{length_grows}
use Rattle.clu_syntax.specs.declared.words.Operator.{Operator}
use Rattle.clu_syntax.specs.declared.words.Operator.TheVariants as op
use Rattle.clu_syntax.specs.Items.{Item}
use Rattle.clu_syntax.specs.Syntax.{Literal, Expression, an_infix, a_prefix, a_paren, a_literal, a_name, an_index, a_get, a_call, fields, elements, elements_from, an_operation, a_force, an_up, a_down, Constants}
use Rattle.clu_meaning.specs.Settling.{type_settled}
use Rattle.clu_bindings.specs.declared.file.Headed.{Headed}
use Rattle.clu_bindings.specs.declared.meaning.Meaning.{Meaning}
use Rattle.clu_bindings.specs.declared.meaning.Meaning.TheVariants as meant
use Rattle.clu_bindings.specs.Readers.{meaning_in}
use Rattle.clu_operations.specs.declared.finding.Finding.{Finding}
use Rattle.clu_checking.specs.Files.{File, meaning}
use Rattle.clu_checking.specs.Typing as typing
use Rattle.clu_checking.specs.Typing.{type_of}
use Rattle.clu_typing.specs.declared.applied.Applied.{Applied}
use Rattle.clu_typing.specs.declared.facts.Facts.{Facts}
use Rattle.clu_typing.specs.Applied.{result_of}
use Rattle.clu_typing.specs.Nodes.{has_actuals, names_module, first_type, first_settled}
use Rattle.clu_typing.specs.Typing.{applied_type, force_type, literal_type, IsForceType, IsIndexTypeBy, IsInfixType, IsNameType, IsTypeBy}
use Rattle.clu_passes.specs.FactTables.{IsType}
use Rattle.clu_passes.specs.NodeTypes.{HasParts}
use Rattle.clu_passes.specs.StandsFor.{HasOperation, StandsFor}
use Rattle.clu_passes.proofs.AppliedTyped.{applied_typed}
use Rattle.clu_passes.proofs.Results.{results_same}
use Rattle.clu_passes.proofs.Sugared.{literals_said}

some_none : {A : Type 0} (x : A) → Some x ≡ None → ⊥
some_none x e = absurd (let bad : Some x ≡ None = e in cc)

pub type_grown : (old new : List Term) → Grows old new → (of : Option TypeId) (t : Option CluType) → IsType old of t → IsType new of t
type_grown old new grows (Some id) (Some t) is = (omega (arith, is.0, length_grows old new grows), is.1 ∙ sym (types_grown old new grows id is.0))
type_grown old new grows None None is = tt
type_grown old new grows (Some id) None is = absurd is
type_grown old new grows None (Some t) is = absurd is

module _ (f : File) (h : Headed) (old new : List Term) (grows : Grows old new) (arena : IsArena old) (facts : Facts) (after : Finding) (n : ℕ) (its : Applied) (known : List (Option TypeId)) (items : ℕ → Item) where
  same_type : (of x : Option TypeId) (t : Option CluType) → of ≡ x → IsType old x t → IsType new of t
  same_type of x t e is = subst (λ (o : Option TypeId). IsType new o t) (sym e) (type_grown old new grows x t is)

  by_applied : (e : Expression) → HasOperation f e → StandsFor f old facts e its → (of : Option TypeId) → of ≡ applied_type old facts.finding its → IsType new of (type_of f e)
  by_applied e some said of is = same_type of (applied_type old facts.finding its) (type_of f e) is (applied_typed f old arena facts e its some said)

  infix_typed : (m : ℕ) (o : Operator) (a b : Expression) (of : Option TypeId) → StandsFor f old facts (an_infix m o a b) its → IsInfixType old new facts.finding its o of → IsType new of (type_of f (an_infix m o a b))
  infix_typed m op.Cand a b of said is = is
  infix_typed m op.Cor a b of said is = is
  infix_typed m op.Power a b of said is = by_applied (an_infix m op.Power a b) (λ no. some_none _ no) said of is
  infix_typed m op.Multiply a b of said is = by_applied (an_infix m op.Multiply a b) (λ no. some_none _ no) said of is
  infix_typed m op.Divide a b of said is = by_applied (an_infix m op.Divide a b) (λ no. some_none _ no) said of is
  infix_typed m op.Remainder a b of said is = by_applied (an_infix m op.Remainder a b) (λ no. some_none _ no) said of is
  infix_typed m op.Add a b of said is = by_applied (an_infix m op.Add a b) (λ no. some_none _ no) said of is
  infix_typed m op.Subtract a b of said is = by_applied (an_infix m op.Subtract a b) (λ no. some_none _ no) said of is
  infix_typed m op.Concatenate a b of said is = by_applied (an_infix m op.Concatenate a b) (λ no. some_none _ no) said of is
  infix_typed m op.Less a b of said is = by_applied (an_infix m op.Less a b) (λ no. some_none _ no) said of is
  infix_typed m op.AtMost a b of said is = by_applied (an_infix m op.AtMost a b) (λ no. some_none _ no) said of is
  infix_typed m op.Equal a b of said is = by_applied (an_infix m op.Equal a b) (λ no. some_none _ no) said of is
  infix_typed m op.AtLeast a b of said is = by_applied (an_infix m op.AtLeast a b) (λ no. some_none _ no) said of is
  infix_typed m op.Greater a b of said is = by_applied (an_infix m op.Greater a b) (λ no. some_none _ no) said of is
  infix_typed m op.NotLess a b of said is = by_applied (an_infix m op.NotLess a b) (λ no. some_none _ no) said of is
  infix_typed m op.NotAtMost a b of said is = by_applied (an_infix m op.NotAtMost a b) (λ no. some_none _ no) said of is
  infix_typed m op.NotEqual a b of said is = by_applied (an_infix m op.NotEqual a b) (λ no. some_none _ no) said of is
  infix_typed m op.NotAtLeast a b of said is = by_applied (an_infix m op.NotAtLeast a b) (λ no. some_none _ no) said of is
  infix_typed m op.NotGreater a b of said is = by_applied (an_infix m op.NotGreater a b) (λ no. some_none _ no) said of is
  infix_typed m op.And a b of said is = by_applied (an_infix m op.And a b) (λ no. some_none _ no) said of is
  infix_typed m op.Or a b of said is = by_applied (an_infix m op.Or a b) (λ no. some_none _ no) said of is

  -- brackets that hold no actual parameters
  index_typed : (e : Expression) → HasOperation f e → StandsFor f old facts e its → (of : Option TypeId) → (b : Bool) → b ≡ false → IsIndexTypeBy old new facts.finding after h n its b (names_module h.file n) of → IsType new of (type_of f e)
  index_typed e some said of false none is = by_applied e some said of is
  index_typed e some said of true none is = absurd (let bad : true ≡ false = none in cc)

  name_typed : (m : ℕ) (name : List ℕ) (of : Option TypeId) → HasParts f h old known n (a_name m name) → StandsFor f old facts (a_name m name) its → (means : Meaning) → means ≡ meant.RoutineOfCluster → IsNameType old new facts.finding after h n its items means of
      → IsType new of (type_of f (a_name m name))
  name_typed m name of parts said means routine is = by_applied (a_name m name) parts.1 said of (subst (λ (x : Meaning). IsNameType old new facts.finding after h n its items x of) routine is)

  -- force of the type to which the first child comes
  forced : (to : Option TypeId) (t : CluType) (of : Option TypeId) → IsType old to (Some t) → IsForceType old new to of → IsType new of (Some (typing.force_type t))
  unfolding force_type
  forced (Some to) t of is force = subst (λ (x : CluType). IsType new of (Some (typing.force_type x))) (sym is.1) (force is.0)
  forced None t of is force = absurd is

  pub expression_typed : (e : Expression) (of : Option TypeId) → HasParts f h old known n e → StandsFor f old facts e its → IsTypeBy old new facts.finding after h n its known items e of → IsType new of (type_of f e)
  unfolding IsTypeBy
  expression_typed (an_infix m o a b) of parts said is = infix_typed m o a b of said is
  expression_typed (a_prefix m s e) of parts said is = by_applied (a_prefix m s e) tt said of is
  expression_typed (a_paren m e) of parts said is = same_type of (first_type h.file known n) (type_of f e) is parts
  expression_typed (a_literal m l) of parts said is = subst (λ (t : Option CluType). IsType new of t) (literals_said l) is
  expression_typed (a_name m name) of parts said is = name_typed m name of parts said (meaning_in h.file n) parts.0 is
  expression_typed (an_index m (a_name k name) cs) of parts said is = index_typed (an_index m (a_name k name) cs) parts.1 said of (has_actuals h.file n) parts.0 is
  expression_typed (an_index m e cs) of parts said is = index_typed (an_index m e cs) tt said of (has_actuals h.file n) parts is
  expression_typed (a_get m e name) of parts said is = by_applied (a_get m e name) tt said of is
  expression_typed (a_call m e es) of parts said is =
      same_type of (result_of old (first_type h.file known n)) (option_and_then typing.result_of (type_of f e)) is (results_same old arena (first_type h.file known n) (type_of f e) parts)
  expression_typed (fields m t cs) of parts said is = same_type of (first_settled h.file n) (Some (type_settled f.scope t)) is parts
  expression_typed (elements m t es) of parts said is = same_type of (first_settled h.file n) (Some (type_settled f.scope t)) is parts
  expression_typed (elements_from m t e es) of parts said is = same_type of (first_settled h.file n) (Some (type_settled f.scope t)) is parts
  expression_typed (an_operation m t name) of parts said is = by_applied (an_operation m t name) tt said of is
  expression_typed (a_force m t) of parts said is = forced (first_settled h.file n) (type_settled f.scope t) of parts is
  expression_typed (an_up m e) of parts said is = same_type of _ _ is parts
  expression_typed (a_down m e) of parts said is = same_type of _ _ is parts
