-- A for statement that keeps the rules is well typed in each instance of its text: its call is of an iterator.
use Rattle.std.proofs.Common.{◌≡◌, ℕ, true, false, List, [], ◌∷◌, ◌++◌, length, Option, Some, refl, sym, ap, ap₂, subst, ◌∙◌, inl, inr}
use Rattle.std.specs.Prelude.{◌==◌, not}
use Rattle.std.specs.List.{list_any}
use Rattle.std.proofs.lemmas.Bool.{or_parts, eqb-true, not-false}
use Rattle.clu_base.specs.declared.rules.Rule.TheVariants as rule
use Rattle.clu_tree.specs.declared.node.NodeKind.TheVariants as kind
use Rattle.clu_types.specs.CluType.{CluType, iter_of, CluTypes, Signals}
use Rattle.clu_types.specs.Substituted.{substituted, types_substituted, signals_substituted}
use Rattle.clu_types.specs.Included.{Included, AreAmong}
use Rattle.clu_builtin.specs.Operation.{one}
use Rattle.clu_layout.specs.SameType.{fits, all_fit}
use Rattle.clu_layout.proofs.SameTypeLaws.{fits_included}
use Rattle.clu_syntax.specs.Syntax as syntax
use Rattle.clu_syntax.specs.Syntax.{Expression, a_call, Expressions, a_for, Body}
use Rattle.clu_meaning.specs.Programs.{Program}
use Rattle.clu_meaning.specs.Resolving.{statement, body, expression}
use Rattle.clu_meaning.specs.Binding.{Running}
use Rattle.clu_checking.specs.Files.{File, kind_in}
use Rattle.clu_checking.specs.Headings.{specification}
use Rattle.clu_checking.specs.Typing.{type_of}
use Rattle.clu_checking.specs.Wanted.{a_loop_call}
use Rattle.clu_checking.specs.Raising as raising
use Rattle.clu_checking.specs.Invocations as invocations
use Rattle.clu_checking.specs.Invocations.{Invocation, is_object_wanted, if_object}
use Rattle.clu_checking.specs.ExpressionRules.{count, all_may_fit, is_iterator, has_other_count, has_other_types, is_misfit}
use Rattle.clu_checking.specs.StatementRules.{Binding, known, declared_types, bound_to, results_by, bound_by, bindings_in, bindings_at, is_other_than_iterator, loops_over, v36_in}
use Rattle.laws_sound.specs.Sound.{LawfulBy}
use Rattle.laws_sound.specs.WellTyped.{Site, HasTypes, WellTyped, AllWellTyped}
use Rattle.laws_sound.proofs.Transitive.{trans_all}
use Rattle.laws_accepted.specs.Legal.{Context}
use Rattle.laws_accepted.specs.Lawful.{Routines, is_lawful}
use Rattle.laws_accepted.specs.Instances.{AsSpecified}
use Rattle.laws_accepted.specs.Standing.{MayRaise, ExpressionAt, StatementAt}
use Rattle.laws_accepted.proofs.PutIn.{all_put}
use Rattle.laws_accepted.proofs.OfKinds.{no}
use Rattle.laws_accepted.proofs.Invocations.{known_types, fit_all, among_itself, raises_among}
use Rattle.laws_accepted.proofs.Raised.{raise_behind, raise_invoked}
use Rattle.laws_accepted.proofs.ExpressionsTyped as expressions_typed
use Rattle.laws_accepted.proofs.ExpressionsTyped.{place, AllTyped}
use Rattle.laws_accepted.proofs.Assigned.{known_is, all_itself, AllDeclared, declared_are, counted, fitting}

-- a heading that is included in an iterator's type
record IsNarrow (h : CluType) (args results : CluTypes) (many : Signals) : Type 0 where
  few : Signals
  is : h ≡ iter_of args results few
  among : AreAmong few many

narrow_is : (h : CluType) (args results : CluTypes) (many : Signals) → fits h (iter_of args results many) ≡ true → IsNarrow h args results many
narrow_is h args results many f = by h (fits_included h (iter_of args results many) f)
  where
    by : (h : CluType) → Included h (iter_of args results many) → IsNarrow h args results many
    by h (inl e) = record { few = many; is = e; among = among_itself many }
    by (iter_of a r few) (inr n) = record { few = few; is = ap₂ (λ x y. iter_of x y few) n.0 n.1; among = n.2 }
    by _ (inr n) = absurd n

record IsIterator (t : CluType) : Type 0 where
  args : CluTypes
  results : CluTypes
  signals : Signals
  is : t ≡ iter_of args results signals

iterator_is : (t : CluType) → is_iterator t ≡ true → IsIterator t
iterator_is (iter_of args results ss) h = record { args = args; results = results; signals = ss; is = refl }
iterator_is _ h = no h

module _ (f : File) (program : Program) (routines : Routines) (s : AsSpecified f program routines) (r : Running) (home : Option CluType) (context : Context) (p : Site) where
  pub for_typed : (n m : ℕ) (ds : List syntax.Typed) (e : Expression) (es : Expressions) (b : Body) → StatementAt f routines r home context n kind.For (a_for n ds (a_call m e es) b) →
      ExpressionAt f routines r home context m kind.Call a_loop_call (a_call m e es) → expressions_typed.Typed f program routines s r home context p.raises e → AllTyped f program routines s r home context p.raises es →
      AllDeclared f program routines s r home context p ds → MayRaise r.given (raising.by_expression f (a_call m e es)) p.raises →
      AllWellTyped program (LawfulBy (is_lawful (specification f) routines)) r (record p { in_loop = true }) (body (place f program routines s r home context p.raises) b) →
      WellTyped program (LawfulBy (is_lawful (specification f) routines)) r p (statement (place f program routines s r home context p.raises) (a_for n ds (a_call m e es) b))
  for_typed n m ds e es b x c te tes d raise inside =
      let other : is_other_than_iterator f (type_of f e) ≡ false = sym (ap (λ t. is_other_than_iterator f (loops_over f t)) x.is) ∙ sym (ap (λ k. v36_in f k n) x.stands.kind) ∙ x.stands.rules rule.IteratorUse in
      let t = iterator_is te.type (not-false (is_iterator te.type) (sym (ap (is_other_than_iterator f) te.is) ∙ other)) in
      let type_is : type_of f e ≡ Some (iter_of t.args t.results t.signals) = te.is ∙ ap (λ t. Some t) t.is in
      let i : Invocation = record { invoked = Some (record { type = Some (iter_of t.args t.results t.signals); asks = [] }); arguments = known_types tes.types } in
      let only : invocations.invocations f m ≡ i ∷ [] = ap (λ k. invocations.invocations_by f k m) c.stands.kind ∙ ap (λ w. if_object f (is_object_wanted w) m) c.wants ∙ ap (invocations.by_expression f) c.is ∙ ap₂ (λ o us. invocations.by_call f o us) type_is tes.are in
      let as_many : not (count t.args == length (known_types tes.types)) ≡ false = (or_parts (has_other_count i) false (sym (ap (list_any has_other_count) only) ∙ c.stands.rules rule.ArgumentCount)).0 in
      let each : not (all_may_fit (known_types tes.types) t.args) ≡ false = (or_parts (has_other_types i) false (sym (ap (list_any has_other_types) only) ∙ (or_parts (list_any has_other_types (invocations.invocations f m)) (is_misfit f (kind_in f m) m) (c.stands.rules rule.ArgumentType)).0)).0 in
      let fit : all_fit tes.types t.args ≡ true = fit_all tes.types t.args (eqb-true (count t.args) (length (known_types tes.types)) (not-false (count t.args == length (known_types tes.types)) as_many)) (not-false (all_may_fit (known_types tes.types) t.args) each) in
      let narrow = narrow_is te.own (types_substituted r.given t.args) (types_substituted r.given t.results) (signals_substituted r.given t.signals) (subst (λ u. fits te.own (substituted r.given u) ≡ true) t.is te.fit) in
      let raised = raise_behind r.given (raising.by_expression f e ++ raising.by_expressions f es) (raising.invoked (type_of f e)) p.raises raise in
      let binding : Binding = record { variables = known (declared_types f ds); objects = known_types t.results } in
      let bound : bindings_at f n ≡ binding ∷ [] = ap (λ k. bindings_in f k n) x.stands.kind ∙ ap (bound_by f) x.is ∙ ap (λ o. bound_to f (known (declared_types f ds)) (results_by f o)) type_is
      ∙ ap (λ os. record { variables = known (declared_types f ds); objects = os } ∷ []) (known_is t.results) in (
        types_substituted r.given t.args,
        types_substituted r.given t.results,
        narrow.few,
        tes.owns,
        subst (λ u. HasTypes program (LawfulBy (is_lawful (specification f) routines)) r p.raises (expression (place f program routines s r home context p.raises) e) (one u)) narrow.is te.typed,
        tes.typed,
        record {
          fit = trans_all tes.owns (types_substituted r.given tes.types) (types_substituted r.given t.args) tes.fit (all_put r.given tes.types t.args fit);
          raises = raises_among narrow.few (signals_substituted r.given t.signals) p.raises narrow.among (raise_invoked r.given t.args t.results t.signals p.raises (subst (λ o. MayRaise r.given (raising.invoked o) p.raises) type_is raised));
        },
        (declared_are f program routines s r home context p ds d).bind t.results (types_substituted r.given t.results) (counted f program routines s r home context p n x.stands.rules binding bound)
            (fitting f program routines s r home context p n x.stands.rules binding bound kind.For x.stands.kind refl) (all_itself (types_substituted r.given t.results)),
        inside,
      )
