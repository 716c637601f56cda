-- An element by its index is well typed in each instance of its text, where the rules are kept.
use Rattle.std.proofs.Common.{◌≡◌, ℕ, true, false, List, [], ◌∷◌, ◌++◌, Option, Some, refl, sym, ap, ap₂, subst, ◌∙◌}
use Rattle.std.specs.Prelude.{codes}
use Rattle.std.proofs.lemmas.Bool.{and_from, or_parts}
use Rattle.clu_tree.specs.declared.node.NodeKind.{NodeKind}
use Rattle.clu_tree.specs.declared.node.NodeKind.TheVariants as kind
use Rattle.clu_types.specs.CluType.{CluType, CluTypes, no_types, type_and}
use Rattle.clu_types.specs.Substituted.{substituted, types_substituted}
use Rattle.clu_builtin.specs.Operation.{one}
use Rattle.clu_layout.specs.SameType.{fits, all_fit}
use Rattle.clu_syntax.specs.Syntax.{Identifier, Expression, a_name, an_index, an_expression, Constants, no_constants, constant_and}
use Rattle.clu_meaning.specs.Scoping.{Meaning, is_module}
use Rattle.clu_meaning.specs.Programs as program_of
use Rattle.clu_meaning.specs.Programs.{Program}
use Rattle.clu_meaning.specs.Resolving.{expression_named, indexed_by, expression, constants}
use Rattle.clu_meaning.specs.Binding.{Running}
use Rattle.clu_checking.specs.Files.{File, meaning}
use Rattle.clu_checking.specs.Headings.{specification}
use Rattle.clu_checking.specs.Operations.{operation_found}
use Rattle.clu_checking.specs.Typing.{sugar_type, index_type, name_type, takes_actuals_by, takes_actuals, type_of}
use Rattle.clu_checking.specs.Wanted.{an_object}
use Rattle.clu_checking.specs.Raising as raising
use Rattle.clu_checking.specs.Invocations as invocations
use Rattle.clu_checking.specs.Invocations.{Invocation, types_of_indexes}
use Rattle.clu_checking.specs.ExpressionRules.{has_not_one_result}
use Rattle.laws_sound.specs.Raises.{Raise}
use Rattle.laws_sound.specs.Sound.{LawfulBy}
use Rattle.laws_sound.specs.WellTyped.{HasTypes, HaveTypes}
use Rattle.laws_accepted.specs.Legal.{Context}
use Rattle.laws_accepted.specs.Lawful.{Routines, is_lawful}
use Rattle.laws_accepted.specs.Instances.{AsSpecified}
use Rattle.laws_accepted.specs.Standing.{MayRaise, ExpressionAt}
use Rattle.laws_accepted.proofs.OfKinds.{no}
use Rattle.laws_accepted.proofs.FoundRuns.{fits_itself}
use Rattle.laws_accepted.proofs.Invocations.{known_types}
use Rattle.laws_accepted.proofs.AtNodes.{invocations_kept, one_wanted}
use Rattle.laws_accepted.proofs.Raised.{raise_behind}
use Rattle.laws_accepted.proofs.ExpressionsTyped.{place, Typed, of_object, sugar_typed}

module _ (f : File) (program : Program) (routines : Routines) (s : AsSpecified f program routines) (r : Running) (home : Option CluType) (context : Context) (rs : List Raise) where
  abbrev Here : ℕ → NodeKind → Expression → Type 0
  Here n k e = ExpressionAt f routines r home context n k an_object e

  abbrev Gives : Expression → Type 0
  Gives e = Typed f program routines s r home context rs e

  abbrev To : CluType → CluType
  To t = substituted r.given t

  abbrev May : List raising.Raise → Type 0
  May xs = MayRaise r.given xs rs

  -- indexes, each of one object
  pub record IndexesTyped (cs : Constants) : Type 0 where
    pub types : CluTypes
    pub are : types_of_indexes f cs ≡ known_types types
    pub owns : CluTypes
    pub typed : HaveTypes program (LawfulBy (is_lawful (specification f) routines)) r rs (constants (place f program routines s r home context rs) cs) owns
    pub fit : all_fit owns (types_substituted r.given types) ≡ true

  pub no_index : IndexesTyped no_constants
  no_index = record { types = no_types; are = refl; owns = no_types; typed = tt; fit = refl }

  pub and_index : (e : Expression) (cs : Constants) → Gives e → IndexesTyped cs → IndexesTyped (constant_and (an_expression e) cs)
  and_index e cs x xs = record {
    types = type_and x.type xs.types;
    are = ap₂ (λ o os. o ∷ os) x.is xs.are;
    owns = type_and x.own xs.owns;
    typed = (x.typed, xs.typed);
    fit = and_from (fits x.own (To x.type)) (all_fit xs.owns (types_substituted r.given xs.types)) x.fit xs.fit;
  }

  -- what the rules and the running program make of an index
  pub record IsFetch (n : ℕ) (e : Expression) (cs : Constants) : Type 0 where
    pub type : type_of f (an_index n e cs) ≡ sugar_type f n (codes "fetch") (type_of f e)
    pub invokes : invocations.by_expression f (an_index n e cs) ≡ invocations.by_sugar f n (codes "fetch") (type_of f e) (types_of_indexes f cs)
    pub raises : raising.by_expression f (an_index n e cs) ≡ raising.by_expression f e ++ raising.by_constants f cs ++ raising.by_sugar f n (codes "fetch") (type_of f e)
    pub runs : expression (place f program routines s r home context rs) (an_index n e cs) ≡ program_of.operator (codes "fetch") (expression (place f program routines s r home context rs) e) (constants (place f program routines s r home context rs) cs)

  pub fetch_typed : (n : ℕ) (e : Expression) (cs : Constants) → Here n kind.Index (an_index n e cs) → IsFetch n e cs → Gives e → IndexesTyped cs → May (raising.by_expression f (an_index n e cs)) → Gives (an_index n e cs)
  fetch_typed n e cs x is a xs raise =
      let i : Invocation = record { invoked = operation_found f n a.type (codes "fetch"); arguments = Some a.type ∷ known_types xs.types } in
      let one_invoked : invocations.invocations f n ≡ i ∷ [] = ap (λ k. invocations.invocations_by f k n) x.stands.kind ∙ of_object f program routines s r home context rs n kind.Index (an_index n e cs) x ∙ is.invokes
      ∙ ap₂ (λ o us. invocations.by_sugar f n (codes "fetch") o us) a.is xs.are in
      let kept = invocations_kept f n x.stands.rules kind.Index x.stands.kind refl an_object x.wants refl (i ∷ []) one_invoked in
      let ones = one_wanted f n x.stands.rules kind.Index x.stands.kind an_object x.wants refl (i ∷ []) one_invoked in
      let y = sugar_typed f program routines s r home context rs n kind.Index x.stands a.type (codes "fetch") xs.types a.legal kept.0 (or_parts (has_not_one_result i) false ones).0 in
      let raised = raise_behind r.given (raising.by_expression f e ++ raising.by_constants f cs) (raising.by_sugar f n (codes "fetch") (type_of f e)) rs (subst (λ xs. May xs) is.raises raise) in
      record {
        type = y.result;
        is = is.type ∙ ap (sugar_type f n (codes "fetch")) a.is ∙ y.is;
        legal = y.legal;
        own = To y.result;
        typed = subst (λ c. HasTypes program (LawfulBy (is_lawful (specification f) routines)) r rs c (one (To y.result))) (sym is.runs)
            (a.own, xs.owns, a.typed, xs.typed, y.typed a.own xs.owns a.fit xs.fit (record { first = refl; second = refl }) (subst (λ o. May (raising.by_sugar f n (codes "fetch") o)) a.is raised));
        fit = fits_itself (To y.result);
      }

  -- of a name that takes no actuals
  fetch_of : (m : ℕ) (name : Identifier) (cs : Constants) (d : Meaning) → takes_actuals_by f m name d ≡ false → indexed_by (place f program routines s r home context rs) m name cs (constants (place f program routines s r home context rs) cs) d
      ≡ program_of.operator (codes "fetch") (expression_named (place f program routines s r home context rs) m name) (constants (place f program routines s r home context rs) cs)
  fetch_of m name cs is_module e = no (sym e)
  fetch_of m name cs _ e = refl

  pub name_fetch : (n m : ℕ) (name : Identifier) (cs : Constants) → takes_actuals f m name ≡ false → IsFetch n (a_name m name) cs
  name_fetch n m name cs e = record {
    type = ap (λ b. index_type f b n m name cs) e;
    invokes = ap (λ b. invocations.by_index f b n (name_type f m name) cs) e;
    raises = ap (λ b. raising.by_index f b n m name (raising.by_constants f cs)) e;
    runs = fetch_of m name cs (meaning f m name) e;
  }
