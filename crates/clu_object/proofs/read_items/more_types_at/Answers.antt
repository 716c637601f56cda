use Rattle.std.proofs.lemmas.Result.{err_from_is_err_and}
use Rattle.clu_format.proofs.Counting.{turn_on, turn_fails, all_made}
use Rattle.clu_object.specs.ObjectReading.{type_text_read}
use Rattle.clu_object.proofs.read_items.more_types_at.Goals as goal

pub loop-preserved : goal.loop-preserved
loop-preserved c =
    rw c.in_ok-push.ensures.items
    (turn_on (λ made. type_text_read) c.args.count c.loop.counter c.loop.texts.items c.in_ok-text.text c.loop.rest.now c.in_ok-text.after.now _ c.loop-test.true c.in_ok-text.ensures c.loop.invariant)

pub returns-in_err-text : goal.returns-in_err-text
returns-in_err-text c =
    let p = err_from_is_err_and c.from_residual.result c.from_residual.ensures.1 in
    rw (p.1, p.2)
    (turn_fails (λ made. type_text_read) c.in_err-text.field-0.0 c.args.count c.loop.counter c.loop.texts.items c.loop.rest.now _ c.loop-test.true c.in_err-text.ensures c.loop.invariant)

pub returns : goal.returns
returns c = rw c.from_vec.ensures (all_made (λ made. type_text_read) c.args.count c.loop.counter c.loop.texts.items c.loop.rest.now _ c.loop-test.false c.loop.invariant)
