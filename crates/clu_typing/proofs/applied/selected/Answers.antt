use Rattle.std.proofs.Common.{◌∙◌, ℕ, List, ◌++◌, IfOk, false, refl, ap, subst}
use Rattle.std.proofs.lemmas.Result.{IfOk-weaker}
use Rattle.clu_operations.specs.declared.words.NameId.{NameId}
use Rattle.clu_operations.specs.Words.{number_with, with_name}
use Rattle.clu_operations.proofs.Looking.{finding_named, follows_named}
use Rattle.clu_typing.specs.Stands.{IsInvoked}
use Rattle.clu_typing.proofs.Telling.{finds_on, number_got}
use Rattle.clu_typing.proofs.applied.selected.Goals as goal

pub returns-clause-stands : goal.returns-clause-stands
returns-clause-stands c =
    subst (λ (name : NameId). IfOk c.invoked.result (IsInvoked c.args.of name false))
    (c.in_ok-name.ensures.1 ∙ ap (λ (front : List ℕ). number_with c.args.finding.now.words (front ++ c.args.selector.now)) c.as_bytes.ensures.value)
    c.invoked.ensures.stands

pub returns-clause-found : goal.returns-clause-found
returns-clause-found c = λ within finding.
    let words = c.in_ok-name.ensures.0 ∙ ap (λ (front : List ℕ). with_name c.args.finding.now.words (front ++ c.args.selector.now)) c.as_bytes.ensures.value in
    let number = c.in_ok-name.ensures.1 ∙ ap (λ (front : List ℕ). number_with c.args.finding.now.words (front ++ c.args.selector.now)) c.as_bytes.ensures.value in
    IfOk-weaker c.invoked.result _ _ (λ its found. (finds_on _ _ _ _ _ (follows_named _ _ _ words refl refl refl) found.0, found.1))
    (c.invoked.ensures.found (c.args.front.now ++ c.args.selector.now) (number_got _ _ _ _ words number) within (finding_named _ _ _ _ _ words refl refl refl refl refl finding))
