use Rattle.std.proofs.lemmas.Result.{err_from_is_err_and}
use Rattle.clu_format.proofs.Counting.{all_made}
use Rattle.clu_object.specs.ObjectReading.{routine_read}
use Rattle.clu_object.proofs.Turns.{added_on, added_fails}
use Rattle.clu_object.proofs.reading.routines_at.Goals as goal

pub loop-preserved : goal.loop-preserved
loop-preserved c = added_on routine_read c.args.count c.loop.counter c.loop.routines.items _ c.loop.rest.now _ _ c.loop-test.true c.in_ok-rest.ensures c.loop.invariant

pub returns-in_err-rest : goal.returns-in_err-rest
returns-in_err-rest c =
    let p = err_from_is_err_and c.from_residual.result c.from_residual.ensures.1 in
    rw (p.1, p.2)
    (added_fails routine_read c.in_err-rest.field-0.0 c.args.count c.loop.counter c.loop.routines.items c.loop.rest.now _ c.loop-test.true c.in_err-rest.ensures c.loop.invariant)

pub returns : goal.returns
returns c = all_made (λ made. routine_read) c.args.count c.loop.counter c.loop.routines.items c.loop.rest.now _ c.loop-test.false c.loop.invariant
