use Rattle.std.proofs.lemmas.Result.{err_from_is_err_and}
use Rattle.clu_format.proofs.Counting.{turn_on, turn_fails, all_made}
use Rattle.clu_format.specs.Fields.{number_read}
use Rattle.clu_object.proofs.read_holes.words_at.Goals as goal

pub loop-preserved : goal.loop-preserved
loop-preserved c =
    rw c.in_ok-push.ensures.items
    (turn_on (λ made. number_read 4) c.args.count c.loop.counter c.loop.words.items c.in_ok-word.word c.loop.rest.now c.in_ok-word.after.now _ c.loop-test.true c.in_ok-word.ensures c.loop.invariant)

pub returns-in_err-word : goal.returns-in_err-word
returns-in_err-word c =
    let p = err_from_is_err_and c.from_residual.result c.from_residual.ensures.1 in
    rw (p.1, p.2)
    (turn_fails (λ made. number_read 4) c.in_err-word.field-0.0 c.args.count c.loop.counter c.loop.words.items c.loop.rest.now _ c.loop-test.true c.in_err-word.ensures c.loop.invariant)

pub returns : goal.returns
returns c = rw c.from_vec.ensures (all_made (λ made. number_read 4) c.args.count c.loop.counter c.loop.words.items c.loop.rest.now _ c.loop-test.false c.loop.invariant)
