use Rattle.std.proofs.Common.{◌∙◌, refl, ap}
use Rattle.std.proofs.lemmas.Result.{IfOk-weaker}
use Rattle.clu_operations.specs.Words.{number_with, with_name}
use Rattle.clu_operations.proofs.Looking.{finding_named, follows_named}
use Rattle.clu_typing.proofs.Telling.{finds_on, number_got}
use Rattle.clu_typing.proofs.applied.by_word.Goals as goal

pub returns-clause-found : goal.returns-clause-found
returns-clause-found c = λ within finding.
    let words = c.in_ok-name.ensures.0 ∙ ap (with_name c.args.finding.now.words) c.as_bytes.ensures.value in
    let number = c.in_ok-name.ensures.1 ∙ ap (number_with c.args.finding.now.words) c.as_bytes.ensures.value in
    IfOk-weaker c.invoked.result _ _ (λ its found. (finds_on _ _ _ _ _ (follows_named _ _ _ words refl refl refl) found.0, found.1))
    (c.invoked.ensures.found c.args.word.now (number_got _ _ _ _ words number) within (finding_named _ _ _ _ _ words refl refl refl refl refl finding))
