-- A sugared invocation that keeps the rules has its operation when an instance of the text runs.
use Rattle.std.proofs.Common.{◌≡◌, ℕ, Bool, true, false, List, ◌∷◌, Option, None, Some, refl, sym, ap, subst, ◌∙◌, arith}
use Rattle.std.specs.Prelude.{◌==◌, ◌&&◌, not, is_none}
use Rattle.std.proofs.lemmas.Bool.{and_from, eqb-true}
use Rattle.clu_types.specs.CluType.{CluType, proc_of, CluTypes, no_types, type_and, Signals}
use Rattle.clu_types.specs.Substituted.{substituted, types_substituted, signals_substituted}
use Rattle.clu_builtin.specs.Operation.{one}
use Rattle.clu_syntax.specs.Syntax.{Identifier}
use Rattle.clu_layout.specs.Objects.{operation_of}
use Rattle.clu_layout.specs.SameType.{is_routine_type, fits, all_fit}
use Rattle.clu_meaning.specs.Programs.{Program}
use Rattle.clu_meaning.specs.Binding.{Running}
use Rattle.clu_checking.specs.Files.{File}
use Rattle.clu_checking.specs.Headings.{specification}
use Rattle.clu_checking.specs.Operations.{Found, operation_found}
use Rattle.clu_checking.specs.Typing.{found_type, results_of}
use Rattle.clu_checking.specs.Raising as raising
use Rattle.clu_checking.specs.Invocations.{asks_of}
use Rattle.clu_checking.specs.ExpressionRules.{count, holds_if, has_not_one_result}
use Rattle.laws_sound.specs.Raises.{Raise}
use Rattle.laws_sound.specs.Sound.{LawfulBy}
use Rattle.laws_sound.specs.WellTyped.{HasOperation}
use Rattle.laws_sound.proofs.Transitive.{trans_all}
use Rattle.laws_accepted.specs.Legal.{is_legal}
use Rattle.laws_accepted.specs.Lawful.{Routines, is_lawful}
use Rattle.laws_accepted.specs.Instances.{context_at, AllMet, AsSpecified, RunsAt, Runs}
use Rattle.laws_accepted.specs.Standing.{MayRaise}
use Rattle.laws_accepted.proofs.PutIn.{all_put}
use Rattle.laws_accepted.proofs.OfKinds.{no}
use Rattle.laws_accepted.proofs.FoundRuns.{found_runs, found_typed}
use Rattle.laws_accepted.proofs.Invocations.{known_types, IsSugar, invoked_is, has_operation}
use Rattle.laws_accepted.proofs.AtNodes.{Kept}
use Rattle.laws_accepted.proofs.Raised.{raise_invoked}

pub some_there : {A : Type 0} (o : Option A) → is_none o ≡ false → (x : A) × (o ≡ Some x)
some_there (Some x) e = (x, refl)
some_there None e = no (sym e)

-- the only result
pub one_result : (found : Option Found) (x : Found) (arguments : List (Option CluType)) (args results : CluTypes) (ss : Signals) → found ≡ Some x → x.type ≡ Some (proc_of args results ss) →
    has_not_one_result (record { invoked = found; arguments = arguments }) ≡ false → (u : CluType) × (results ≡ one u)
one_result found x arguments args results ss is typed h =
    only results (not_true (count results == 1) (sym (ap (holds_if (λ t. is_routine_type t && not (count (results_of t) == 1))) typed) ∙ sym (ap (λ o. holds_if (λ t. is_routine_type t && not (count (results_of t) == 1)) (found_type o)) is) ∙ h))
  where
    not_true : (b : Bool) → not b ≡ false → b ≡ true
    not_true true e = refl
    not_true false e = no (sym e)

    only : (ts : CluTypes) → (count ts == 1) ≡ true → (u : CluType) × (ts ≡ one u)
    only (type_and u no_types) e = (u, refl)
    only no_types e = no e
    only (type_and u (type_and v vs)) e = absurd (omega (arith, eqb-true (count (type_and u (type_and v vs))) 1 e))

module _ (f : File) (program : Program) (routines : Routines) (s : AsSpecified f program routines) (n : ℕ) (r : Running) (at : RunsAt f n routines r) where
  pub record Sugared (t : CluType) (name : Identifier) (us : CluTypes) : Type 0 where
    pub found : Found
    pub args : CluTypes
    pub results : CluTypes
    pub signals : Signals
    pub there : operation_found f n t name ≡ Some found
    pub type : found.type ≡ Some (proc_of args results signals)
    pub fit : all_fit (type_and t us) args ≡ true
    pub runs : Runs program (LawfulBy (is_lawful (specification f) routines)) r (operation_of (substituted r.given t) name) (substituted r.given (proc_of args results signals))
    pub legal : is_legal (context_at f n) (specification f) (proc_of args results signals) ≡ true

  pub sugared : (t : CluType) (name : Identifier) (us : CluTypes) → is_legal (context_at f n) (specification f) t ≡ true → Kept f n (record { invoked = operation_found f n t name; arguments = Some t ∷ known_types us }) → Sugared t name us
  sugared t name us l k =
      let x = some_there (operation_found f n t name) k.there in
      let typed = found_typed f program routines s.specifications s.of_clusters s.texts n r at t name x.0 x.1 in
      let i = invoked_is (operation_found f n t name) (type_and t us) x.0 typed.0 x.1 typed.1 k.holds in
      let runs = found_runs f program routines s.specifications s.of_clusters s.texts n r at t name i.x (proc_of i.args i.results i.signals) l i.there i.type (subst (λ o. AllMet f n (asks_of f o)) i.there k.asks) in
      record { found = i.x; args = i.args; results = i.results; signals = i.signals; there = i.there; type = i.type; fit = i.fit; runs = runs.0; legal = runs.1 }

  module _ (rs : List Raise) (t : CluType) (name : Identifier) (us : CluTypes) (x : Sugared t name us) where
    pub found_is : found_type (operation_found f n t name) ≡ Some (proc_of x.args x.results x.signals)
    found_is = ap found_type x.there ∙ x.type

    -- the operation that is applied, to objects whose own types are included in those that the rules know
    pub sugared_operation : (own : CluType) (owns : CluTypes) → fits own (substituted r.given t) ≡ true → all_fit owns (types_substituted r.given us) ≡ true → IsSugar name → MayRaise r.given (raising.by_sugar f n name (Some t)) rs →
        HasOperation program (LawfulBy (is_lawful (specification f) routines)) r rs name own owns (types_substituted r.given x.results)
    sugared_operation own owns first others plain raise = has_operation program (LawfulBy (is_lawful (specification f) routines)) r rs (substituted r.given t) own name owns (types_substituted r.given x.args) (types_substituted r.given x.results)
        (signals_substituted r.given x.signals) x.runs first plain
        (trans_all (type_and own owns) (type_and (substituted r.given t) (types_substituted r.given us)) (types_substituted r.given x.args) (and_from (fits own (substituted r.given t)) (all_fit owns (types_substituted r.given us)) first others) (all_put r.given (type_and t us) x.args x.fit))
        (raise_invoked r.given x.args x.results x.signals rs (subst (λ o. MayRaise r.given (raising.invoked o) rs) found_is raise))
