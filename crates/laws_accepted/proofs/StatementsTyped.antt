-- Statements that keep the rules are well typed in each instance of their text: loops, choices, calls, updates, and ends of routines.
use Rattle.std.proofs.Common.{◌≡◌, ℕ, Bool, true, false, List, [], ◌∷◌, ◌++◌, length, Option, None, Some, refl, sym, ap, ap₂, subst, ◌∙◌}
use Rattle.std.specs.Prelude.{◌&&◌, ◌||◌, ◌==◌, not, is_some, codes}
use Rattle.std.proofs.lemmas.Bool.{and_parts, and_from, or_parts, eqb-true, not-false}
use Rattle.clu_base.specs.declared.rules.Rule.TheVariants as rule
use Rattle.clu_tree.specs.declared.node.NodeKind.{NodeKind}
use Rattle.clu_tree.specs.declared.node.NodeKind.TheVariants as kind
use Rattle.clu_types.specs.CluType.{CluType, bool_type, CluTypes, no_types, type_and}
use Rattle.clu_types.specs.Substituted.{substituted, types_substituted}
use Rattle.clu_builtin.specs.Operation.{one}
use Rattle.clu_layout.specs.SameType.{fits, all_fit}
use Rattle.clu_syntax.specs.Splits.{is_of, first_name}
use Rattle.clu_syntax.specs.Syntax.{Identifier, Expression, a_call, Expressions, Statement, a_declare, a_set_field, a_set_index, a_call_statement, a_while, an_if, a_return, a_yield, a_signal, a_break, a_continue, a_begin, Body, Clauses, no_clauses, clause_and, Otherwise, Typed}
use Rattle.clu_meaning.specs.Programs.{Program}
use Rattle.clu_meaning.specs.Resolving.{statement, body, clauses, otherwise_of, expression}
use Rattle.clu_meaning.specs.Binding.{Running}
use Rattle.clu_checking.specs.Files.{File, names, round, routine_round}
use Rattle.clu_checking.specs.Headings.{specification}
use Rattle.clu_checking.specs.Operations.{operation_found}
use Rattle.clu_checking.specs.Typing.{type_of}
use Rattle.clu_checking.specs.Wanted.{some_objects, nothing, wanted}
use Rattle.clu_checking.specs.Raising as raising
use Rattle.clu_checking.specs.Invocations as invocations
use Rattle.clu_checking.specs.Invocations.{Invocation, types_of}
use Rattle.clu_checking.specs.ExpressionRules.{count, all_may_fit, is_other_than}
use Rattle.clu_checking.specs.StatementRules.{fit, v16_in, has_other_condition, some_other_condition, is_in_procedure, results_round, returned, gives_other, v30_in}
use Rattle.clu_checking.specs.ExceptionRules.{is_listed, objects_listed, fits_listed, has_other_types, v25_in, v26_in}
use Rattle.clu_checking.specs.Refusals.{is_bad}
use Rattle.laws_sound.specs.Sound.{LawfulBy}
use Rattle.laws_sound.specs.WellTyped.{Site, HasTypes, Returns, WellTyped, AllWellTyped, ClausesWellTyped, OtherwiseWellTyped}
use Rattle.laws_sound.proofs.Transitive.{trans_all}
use Rattle.laws_accepted.specs.Legal.{Context, is_legal}
use Rattle.laws_accepted.specs.Lawful.{Routines, is_lawful}
use Rattle.laws_accepted.specs.Instances.{AsSpecified}
use Rattle.laws_accepted.specs.Standing.{MayRaise, ExpressionAt, StatementAt, InRoutine}
use Rattle.laws_accepted.proofs.PutIn.{all_put}
use Rattle.laws_accepted.proofs.OfKinds.{no}
use Rattle.laws_accepted.proofs.Invocations.{known_types, fit_all}
use Rattle.laws_accepted.proofs.AtNodes.{invocations_kept}
use Rattle.laws_accepted.proofs.Raised.{raise_behind}
use Rattle.laws_accepted.proofs.Sugared.{sugared, sugared_operation}
use Rattle.laws_accepted.proofs.ExpressionsTyped as expressions_typed
use Rattle.laws_accepted.proofs.ExpressionsTyped.{place, AllTyped, none_typed, and_typed, call_gives, bool_is, bool_typed}

module _ (f : File) (program : Program) (routines : Routines) (s : AsSpecified f program routines) (r : Running) (home : Option CluType) (context : Context) (p : Site) where
  abbrev Gives : Expression → Type 0
  Gives e = expressions_typed.Typed f program routines s r home context p.raises e

  abbrev GiveAll : Expressions → Type 0
  GiveAll es = AllTyped f program routines s r home context p.raises es

  abbrev To : CluType → CluType
  To t = substituted r.given t

  abbrev May : List raising.Raise → Type 0
  May xs = MayRaise r.given xs p.raises

  abbrev Stands : ℕ → NodeKind → Statement → Type 0
  Stands n k e = StatementAt f routines r home context n k e

  abbrev IsTyped : Statement → Type 0
  IsTyped e = WellTyped program (LawfulBy (is_lawful (specification f) routines)) r p (statement (place f program routines s r home context p.raises) e)

  abbrev BodyTyped : Site → Body → Type 0
  BodyTyped q b = AllWellTyped program (LawfulBy (is_lawful (specification f) routines)) r q (body (place f program routines s r home context p.raises) b)

  -- a condition
  condition : (e : Expression) → Gives e → is_other_than bool_type (type_of f e) ≡ false → HasTypes program (LawfulBy (is_lawful (specification f) routines)) r p.raises (expression (place f program routines s r home context p.raises) e) (one bool_type)
  condition e x h = bool_typed f program routines s r home context p.raises e x (bool_is (type_of f e) x.type x.is h)

  -- ---- loops and choices

  pub while_typed : (n : ℕ) (e : Expression) (b : Body) → Stands n kind.While (a_while n e b) → Gives e → BodyTyped (record p { in_loop = true }) b → IsTyped (a_while n e b)
  while_typed n e b x y inside = (condition e y (sym (ap (has_other_condition f) x.is) ∙ sym (ap (λ k. v16_in f k n) x.stands.kind) ∙ x.stands.rules rule.NotBool), inside)

  -- clauses of which each has a condition and a body
  abbrev pub ClausesGive : Clauses → Type 0
  ClausesGive no_clauses = Unit {0}
  ClausesGive (clause_and e b cs) = Gives e × BodyTyped p b × ClausesGive cs

  clauses_typed : (cs : Clauses) → ClausesGive cs → some_other_condition f cs ≡ false → ClausesWellTyped program (LawfulBy (is_lawful (specification f) routines)) r p (clauses (place f program routines s r home context p.raises) cs)
  clauses_typed no_clauses g h = tt
  clauses_typed (clause_and e b cs) g h =
      let q = or_parts (is_other_than bool_type (type_of f e)) (some_other_condition f cs) h in
      (condition e g.0 q.0, g.1, clauses_typed cs g.2 q.1)

  pub if_typed : (n : ℕ) (cs : Clauses) (other : Otherwise) → Stands n kind.If (an_if n cs other) → ClausesGive cs →
      OtherwiseWellTyped program (LawfulBy (is_lawful (specification f) routines)) r p (otherwise_of (place f program routines s r home context p.raises) other) → IsTyped (an_if n cs other)
  if_typed n cs other x g o = (clauses_typed cs g (sym (ap (has_other_condition f) x.is) ∙ sym (ap (λ k. v16_in f k n) x.stands.kind) ∙ x.stands.rules rule.NotBool), o)

  pub begin_typed : (n : ℕ) (b : Body) → BodyTyped p b → IsTyped (a_begin n b)
  begin_typed n b h = h

  pub declare_typed : (n : ℕ) (d : Typed) → IsTyped (a_declare n d)
  declare_typed n d = tt

  -- ---- calls and updates

  pub call_statement_typed : (n m : ℕ) (e : Expression) (es : Expressions) → ExpressionAt f routines r home context m kind.Call some_objects (a_call m e es) → Gives e → GiveAll es → May (raising.by_expression f (a_call m e es)) → IsTyped (a_call_statement n (a_call m e es))
  call_statement_typed n m e es x te tes raise =
      let y = call_gives f program routines s r home context p.raises m some_objects e es x refl refl te tes raise in
      (types_substituted r.given y.results, y.typed)

  pub set_field_typed : (n : ℕ) (e : Expression) (selector : Identifier) (v : Expression) → Stands n kind.SetField (a_set_field n e selector v) → Gives e → Gives v → May (raising.by_statement f (a_set_field n e selector v)) → IsTyped (a_set_field n e selector v)
  set_field_typed n e selector v x te tv raise =
      let name : Identifier = codes "set_" ++ selector in
      let i : Invocation = record { invoked = operation_found f n te.type name; arguments = Some te.type ∷ Some tv.type ∷ [] } in
      let is : invocations.invocations f n ≡ i ∷ [] = ap (λ k. invocations.invocations_by f k n) x.stands.kind ∙ ap (invocations.by_statement f) x.is ∙ ap₂ (λ o u. invocations.by_sugar f n name o (u ∷ [])) te.is tv.is in
      let kept = invocations_kept f n x.stands.rules kind.SetField x.stands.kind refl nothing x.wants refl (i ∷ []) is in
      let y = sugared f program routines s n r x.stands.runs te.type name (one tv.type) (subst (λ c. is_legal c (specification f) te.type ≡ true) (sym x.stands.around) te.legal) kept.0 in
      let raised = raise_behind r.given (raising.by_expression f e ++ raising.by_expression f v) (raising.by_sugar f n name (type_of f e)) p.raises raise in (
        te.own,
        one tv.own,
        types_substituted r.given y.results,
        te.typed,
        (tv.typed, tt),
        sugared_operation f program routines s n r x.stands.runs p.raises te.type name (one tv.type) y te.own (one tv.own) te.fit
            (and_from (fits tv.own (To tv.type)) true tv.fit refl) (record { first = refl; second = refl }) (subst (λ o. May (raising.by_sugar f n name o)) te.is raised),
      )

  pub set_index_typed : (n : ℕ) (e i v : Expression) → Stands n kind.SetIndex (a_set_index n e i v) → Gives e → Gives i → Gives v → May (raising.by_statement f (a_set_index n e i v)) → IsTyped (a_set_index n e i v)
  set_index_typed n e i v x te ti tv raise =
      let name : Identifier = codes "store" in
      let us : CluTypes = type_and ti.type (one tv.type) in
      let j : Invocation = record { invoked = operation_found f n te.type name; arguments = Some te.type ∷ Some ti.type ∷ Some tv.type ∷ [] } in
      let is : invocations.invocations f n ≡ j ∷ [] = ap (λ k. invocations.invocations_by f k n) x.stands.kind ∙ ap (invocations.by_statement f) x.is ∙ ap (λ o. invocations.by_sugar f n name o (type_of f i ∷ type_of f v ∷ [])) te.is
      ∙ ap₂ (λ o u. invocations.by_sugar f n name (Some te.type) (o ∷ u ∷ [])) ti.is tv.is in
      let kept = invocations_kept f n x.stands.rules kind.SetIndex x.stands.kind refl nothing x.wants refl (j ∷ []) is in
      let y = sugared f program routines s n r x.stands.runs te.type name us (subst (λ c. is_legal c (specification f) te.type ≡ true) (sym x.stands.around) te.legal) kept.0 in
      let raised = raise_behind r.given (raising.by_expression f e ++ raising.by_expression f i ++ raising.by_expression f v) (raising.by_sugar f n name (type_of f e)) p.raises raise in (
        te.own,
        type_and ti.own (one tv.own),
        types_substituted r.given y.results,
        te.typed,
        (ti.typed, (tv.typed, tt)),
        sugared_operation f program routines s n r x.stands.runs p.raises te.type name us y te.own (type_and ti.own (one tv.own)) te.fit
            (and_from (fits ti.own (To ti.type)) (fits tv.own (To tv.type) && true) ti.fit (and_from (fits tv.own (To tv.type)) true tv.fit refl)) (record { first = refl; second = refl }) (subst (λ o. May (raising.by_sugar f n name o)) te.is raised),
      )

  -- ---- ends

  pub break_typed : (n : ℕ) → Stands n kind.Break (a_break n) → (round f n).in_loop ≡ p.in_loop → IsTyped (a_break n)
  break_typed n x loops = sym loops ∙ not-false (round f n).in_loop (sym (ap (λ k. (is_of kind.Break k || is_of kind.Continue k) && not (round f n).in_loop) x.stands.kind) ∙ x.stands.rules rule.NotInLoop)

  pub continue_typed : (n : ℕ) → Stands n kind.Continue (a_continue n) → (round f n).in_loop ≡ p.in_loop → IsTyped (a_continue n)
  continue_typed n x loops = sym loops ∙ not-false (round f n).in_loop (sym (ap (λ k. (is_of kind.Break k || is_of kind.Continue k) && not (round f n).in_loop) x.stands.kind) ∙ x.stands.rules rule.NotInLoop)

  -- objects that are as many as are wanted, each included
  given_fit : (es : Expressions) (xs : GiveAll es) (wanted : CluTypes) → not (fit (types_of f es) wanted) ≡ false → all_fit xs.owns (types_substituted r.given wanted) ≡ true
  given_fit es xs wanted h =
      let q = and_parts (length (known_types xs.types) == count wanted) (all_may_fit (known_types xs.types) wanted) (ap (λ os. fit os wanted) (sym xs.are) ∙ not-false (fit (types_of f es) wanted) h) in
      trans_all xs.owns (types_substituted r.given xs.types) (types_substituted r.given wanted) xs.fit (all_put r.given xs.types wanted (fit_all xs.types wanted (sym (eqb-true (length (known_types xs.types)) (count wanted) q.0)) q.1))

  nothing_fits : (us : CluTypes) → all_fit us no_types ≡ true → us ≡ no_types
  nothing_fits no_types h = refl
  nothing_fits (type_and u us) h = no h

  -- what a return gives, by whether the routine is an iterator
  returns_by : (b : Bool) (n : ℕ) (us : CluTypes) → InRoutine f routines r home context n → r.definition.is_iterator ≡ b → all_fit us (types_substituted r.given (returned f (not b) n)) ≡ true → Returns program (LawfulBy (is_lawful (specification f) routines)) r b us
  returns_by true n us i e h = nothing_fits us h
  returns_by false n us i e h = subst (λ ts. all_fit us ts ≡ true) i.results h

  pub return_typed : (n : ℕ) (es : Expressions) → Stands n kind.Return (a_return n es) → InRoutine f routines r home context n → p.may_end ≡ true → GiveAll es → IsTyped (a_return n es)
  return_typed n es x i ends xs =
      let misfit : not (fit (types_of f es) (returned f (is_in_procedure f (routine_round f n)) n)) ≡ false = sym (ap (gives_other f n) x.is) ∙ sym (ap (λ k. v30_in f k n) x.stands.kind) ∙ x.stands.rules rule.ReturnValues in
      (xs.owns, xs.typed, ends, returns_by r.definition.is_iterator n xs.owns i refl (given_fit es xs (returned f (not r.definition.is_iterator) n) (sym (ap (λ b. not (fit (types_of f es) (returned f b n))) i.iterates) ∙ misfit)))

  pub yield_typed : (n : ℕ) (es : Expressions) → Stands n kind.Yield (a_yield n es) → InRoutine f routines r home context n → p.may_end ≡ true → GiveAll es → IsTyped (a_yield n es)
  yield_typed n es x i ends xs =
      let misfit : not (fit (types_of f es) (results_round f (routine_round f n))) ≡ false = sym (ap (gives_other f n) x.is) ∙ sym (ap (λ k. v30_in f k n) x.stands.kind) ∙ x.stands.rules rule.ReturnValues in
      let procedure : is_in_procedure f (routine_round f n) ≡ false = sym (ap (λ k. is_of kind.Yield k && is_in_procedure f (routine_round f n)) x.stands.kind) ∙ x.stands.rules rule.NotInIterator in
      (xs.owns, xs.typed, ends, not-false r.definition.is_iterator (sym i.iterates ∙ procedure), subst (λ ts. all_fit xs.owns ts ≡ true) i.results (given_fit es xs (results_round f (routine_round f n)) misfit))

  pub signal_typed : (n : ℕ) (name : Identifier) (es : Expressions) → Stands n kind.Signal (a_signal n name es) → first_name (names f n) ≡ name → InRoutine f routines r home context n → p.may_end ≡ true → GiveAll es → IsTyped (a_signal n name es)
  signal_typed n name es x named i ends xs = by (objects_listed f n name) refl
    where
      listed : is_listed f n name ≡ true
      listed = subst (λ y. is_listed f n y ≡ true) named (not-false (is_listed f n (first_name (names f n))) (sym (ap (λ k. v25_in f k n) x.stands.kind) ∙ x.stands.rules rule.SignalNotListed))

      fitting : not (fits_listed f (types_of f es) (objects_listed f n name)) ≡ false
      fitting = sym (ap (has_other_types f (is_bad f) n) x.is) ∙ sym (ap (λ k. v26_in f (is_bad f) k n) x.stands.kind) ∙ x.stands.rules rule.SignalTypes

      by : (o : Option CluTypes) → objects_listed f n name ≡ o → WellTyped program (LawfulBy (is_lawful (specification f) routines)) r p (statement (place f program routines s r home context p.raises) (a_signal n name es))
      by (Some ts) is =
          let types = i.signals name ts is in
          (xs.owns, xs.typed, ends, record { types = types.0; there = types.1; fit = subst (λ us. all_fit xs.owns us ≡ true) types.2 (given_fit es xs ts (sym (ap (λ o. not (fits_listed f (types_of f es) o)) is) ∙ fitting)) })
      by None is = no (sym (ap is_some is) ∙ listed)
