use Rattle.std.proofs.Common.{◌≡◌, ◌∙◌, ap, rules, sym}
use Rattle.std.proofs.lemmas.Result.{on_ok_weaker}
use Rattle.clu_wir.specs.declared.expression.WExpr.TheViews.{the_lemmas}
use Rattle.rv_select.specs.Evaluation.{part_of}
use Rattle.clu_wir.specs.Plain.{expr_of}
use Rattle.clu_wir.specs.Plain as tree
use Rattle.rv_select.specs.Written.{written}
use Rattle.rv_select.proofs.Ways.{expr_out, expr_roll, jump_by_word}
use Rattle.rv_select.proofs.evaluating.+evaluation.Goals as goal

pub jump-returns-in-Word : goal.jump-returns-in-Word
jump-returns-in-Word t c =
    let is : expr_of c.args.condition.now ≡ tree.binary c.in-Binary.op (expr_of c.deref.result.now) (expr_of c.deref-in-Binary.result.now) = search (rules, the_lemmas, expr_roll, expr_out) in
    on_ok_weaker c.jump_on_word.result
    (λ e. e ∙ sym (jump_by_word _ (part_of (expr_of c.deref.result.now)) (part_of (expr_of c.deref-in-Binary.result.now)) c.in-Binary.op c.args.scope c.args.sense c.args.target (written c.args.words.now) (ap part_of is) (sym c.in-Word.is ∙ c.told_by.ensures)))
    c.jump_on_word.ensures
