-- Constructors of arrays and sequences that keep the rules are well typed in each instance of their text.
use Rattle.std.proofs.Common.{◌≡◌, ℕ, Bool, true, false, List, [], ◌∷◌, ◌++◌, Option, Some, refl, sym, ap, subst, ◌∙◌}
use Rattle.std.specs.Prelude.{not, is_none}
use Rattle.std.specs.List.{list_any, list_all}
use Rattle.std.proofs.lemmas.Bool.{and_parts, and_from, or_parts, not-false}
use Rattle.clu_base.specs.declared.rules.Rule.TheVariants as rule
use Rattle.clu_tree.specs.declared.node.NodeKind.{NodeKind}
use Rattle.clu_tree.specs.declared.node.NodeKind.TheVariants as kind
use Rattle.clu_types.specs.CluType.{CluType, int_type, array_of, sequence_of, CluTypes, no_types, type_and, Actuals}
use Rattle.clu_types.specs.Substituted.{substituted, types_substituted}
use Rattle.clu_builtin.specs.Operation.{one}
use Rattle.clu_layout.specs.SameType.{same_type, fits, all_fit}
use Rattle.clu_layout.proofs.SameTypeLaws.{types_are}
use Rattle.clu_syntax.specs.Syntax.{Expression, elements, elements_from, Expressions, TypeExpression}
use Rattle.clu_meaning.specs.Settling.{type_settled}
use Rattle.clu_meaning.specs.Programs.{Program}
use Rattle.clu_meaning.specs.Resolving.{expression}
use Rattle.clu_meaning.specs.Binding.{Running}
use Rattle.clu_checking.specs.Files.{File, item, kind_in}
use Rattle.clu_checking.specs.Headings.{specification}
use Rattle.clu_checking.specs.Operations.{may_fit}
use Rattle.clu_checking.specs.Typing.{type_of}
use Rattle.clu_checking.specs.Wanted.{an_object, wanted}
use Rattle.clu_checking.specs.Raising as raising
use Rattle.clu_checking.specs.Invocations.{is_object_wanted, types_of, invocations}
use Rattle.clu_checking.specs.ExpressionRules.{element_of, is_array, is_other_than, some_element_misfits, has_misfit, is_misfit, has_other_types, has_no_constructor, v17_at}
use Rattle.laws_sound.specs.Raises.{Raise}
use Rattle.laws_sound.specs.Sound.{LawfulBy}
use Rattle.laws_sound.specs.WellTyped.{are_each, ElementsFit, ElementsFrom, HasTypes}
use Rattle.laws_sound.proofs.Transitive.{trans_fits}
use Rattle.laws_accepted.specs.Legal.{Context, is_legal}
use Rattle.laws_accepted.specs.Lawful.{Routines, is_lawful}
use Rattle.laws_accepted.specs.Instances.{AsSpecified}
use Rattle.laws_accepted.specs.Standing.{MayRaise, ExpressionAt}
use Rattle.laws_accepted.proofs.PutIn.{fits_put}
use Rattle.laws_accepted.proofs.OfKinds.{no}
use Rattle.laws_accepted.proofs.FoundRuns.{fits_itself}
use Rattle.laws_accepted.proofs.Invocations.{known_types, same_by}
use Rattle.laws_accepted.proofs.AtNodes.{second_false}
use Rattle.laws_accepted.proofs.Raised.{raise_behind, raise_failing}
use Rattle.laws_accepted.proofs.ExpressionsTyped.{Typed, AllTyped}

each_put : (given : Actuals) (u : CluType) (ts owns : CluTypes) → list_all (λ t. may_fit t u) (known_types ts) ≡ true → all_fit owns (types_substituted given ts) ≡ true → are_each (substituted given u) owns ≡ true
each_put given u no_types no_types a f = refl
each_put given u (type_and t ts) (type_and o owns) a f =
    let p = and_parts (fits t u) (list_all (λ t. may_fit t u) (known_types ts)) a in
    let q = and_parts (fits o (substituted given t)) (all_fit owns (types_substituted given ts)) f in
    and_from (fits o (substituted given u)) (are_each (substituted given u) owns) (trans_fits o (substituted given t) (substituted given u) q.0 (fits_put given t u p.0)) (each_put given u ts owns p.1 q.1)
each_put given u no_types (type_and o owns) a f = no f
each_put given u (type_and t ts) no_types a f = no f

int_is : (o : Option CluType) (t : CluType) → o ≡ Some t → is_other_than int_type o ≡ false → t ≡ int_type
int_is o t e h = by (same_type t int_type) refl (sym (ap (is_other_than int_type) e) ∙ h)
  where
    by : (b : Bool) → same_type t int_type ≡ b → not b ≡ false → t ≡ int_type
    by true is k = types_are t int_type is
    by false is k = no (sym k)

module _ (f : File) (program : Program) (routines : Routines) (s : AsSpecified f program routines) (r : Running) (home : Option CluType) (context : Context) (rs : List Raise) where
  abbrev Here : ℕ → NodeKind → Expression → Type 0
  Here n k e = ExpressionAt f routines r home context n k an_object e

  abbrev Gives : Expression → Type 0
  Gives e = Typed f program routines s r home context rs e

  abbrev GiveAll : Expressions → Type 0
  GiveAll es = AllTyped f program routines s r home context rs es

  abbrev To : CluType → CluType
  To t = substituted r.given t

  constructed : (n : ℕ) (e : Expression) → Here n kind.Elems e → has_no_constructor f e ≡ false
  constructed n e x = sym (ap (has_no_constructor f) x.is) ∙ second_false (is_object_wanted (wanted f n)) (has_no_constructor f (item f n).expression) (ap is_object_wanted x.wants) (sym (ap (λ k. v17_at f k n) x.stands.kind) ∙ x.stands.rules rule.Selectors)

  fitting : (n : ℕ) (e : Expression) → Here n kind.Elems e → has_misfit f e ≡ false
  fitting n e x =
      let here = (or_parts (list_any has_other_types (invocations f n)) (is_misfit f (kind_in f n) n) (x.stands.rules rule.ArgumentType)).1 in
      sym (ap (has_misfit f) x.is) ∙ second_false (is_object_wanted (wanted f n)) (has_misfit f (item f n).expression) (ap is_object_wanted x.wants) (sym (ap (λ k. is_misfit f k n) x.stands.kind) ∙ here)

  all_fitting : (u : CluType) (es : Expressions) (xs : GiveAll es) → some_element_misfits f (Some u) es ≡ false → are_each (To u) xs.owns ≡ true
  all_fitting u es xs h = each_put r.given u xs.types xs.owns (sym (ap (list_all (λ t. may_fit t u)) xs.are) ∙ not-false (list_all (λ t. may_fit t u) (types_of f es)) h) xs.fit

  -- the parts of a constructor, by its type
  pub elements_fit : (T : CluType) (es : Expressions) (xs : GiveAll es) → is_none (element_of T) ≡ false → some_element_misfits f (element_of T) es ≡ false → ElementsFit (To T) xs.owns
  elements_fit (array_of u) es xs a h = all_fitting u es xs h
  elements_fit (sequence_of u) es xs a h = all_fitting u es xs h
  elements_fit _ es xs a h = no (sym a)

  pub elements_from_fit : (T : CluType) (es : Expressions) (xs : GiveAll es) → not (is_array T) ≡ false → some_element_misfits f (element_of T) es ≡ false → ElementsFrom (To T) xs.owns
  elements_from_fit (array_of u) es xs a h = all_fitting u es xs h
  elements_from_fit _ es xs a h = no (sym a)

  -- t$[es]
  pub elements_typed : (n : ℕ) (t : TypeExpression) (es : Expressions) → Here n kind.Elems (elements n t es) → is_legal context (specification f) (type_settled f.scope t) ≡ true → GiveAll es → MayRaise r.given (raising.by_expression f (elements n t es)) rs → Gives (elements n t es)
  elements_typed n t es x l xs raise = record {
    type = type_settled f.scope t;
    is = refl;
    legal = l;
    own = To (type_settled f.scope t);
    typed = (
      xs.owns,
      xs.typed,
      elements_fit (type_settled f.scope t) es xs (constructed n (elements n t es) x) (fitting n (elements n t es) x),
      refl,
      raise_failing r.given rs (raise_behind r.given (raising.by_expressions f es) (raising.failure ∷ []) rs raise),
    );
    fit = fits_itself (To (type_settled f.scope t));
  }

  -- t$[low: es]
  pub elements_from_typed : (n : ℕ) (t : TypeExpression) (low : Expression) (es : Expressions) → Here n kind.Elems (elements_from n t low es) → is_legal context (specification f) (type_settled f.scope t) ≡ true → Gives low → GiveAll es →
      MayRaise r.given (raising.by_expression f (elements_from n t low es)) rs → Gives (elements_from n t low es)
  elements_from_typed n t low es x l y xs raise =
      let p = or_parts (is_other_than int_type (type_of f low)) (some_element_misfits f (element_of (type_settled f.scope t)) es) (fitting n (elements_from n t low es) x) in
      let is : y.type ≡ int_type = int_is (type_of f low) y.type y.is p.0 in
      record {
        type = type_settled f.scope t;
        is = refl;
        legal = l;
        own = To (type_settled f.scope t);
        typed = (
          xs.owns,
          subst (λ u. HasTypes program (LawfulBy (is_lawful (specification f) routines)) r rs (expression (record { scope = f.scope; home = home }) low) (one u)) (same_by y.own int_type refl refl (subst (λ u. fits y.own (To u) ≡ true) is y.fit)) y.typed,
          xs.typed,
          elements_from_fit (type_settled f.scope t) es xs (constructed n (elements_from n t low es) x) p.1,
          refl,
          raise_failing r.given rs (raise_behind r.given (raising.by_expression f low ++ raising.by_expressions f es) (raising.failure ∷ []) rs raise),
        );
        fit = fits_itself (To (type_settled f.scope t));
      }
