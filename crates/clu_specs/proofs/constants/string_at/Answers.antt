use Rattle.std.proofs.Common.{sym, length}
use Rattle.std.proofs.lemmas.Result.{err_from_is_err_and}
use Rattle.clu_specs.proofs.Strings.{turn_on, turn_end, turn_fails, none_left}
use Rattle.clu_specs.proofs.constants.string_at.Goals as goal

pub returns-in-Some : goal.returns-in-Some
returns-in-Some c =
    rw c.from_vec.ensures
    (turn_end (length c.args.bytes.now) c.loop.counter c.loop.made.items c.loop.rest.now c.in-Some.after.now _ c.loop-test.true (sym c.in-Some.ensures) c.loop.invariant)

pub returns-in_err-b-in-None : goal.returns-in_err-b-in-None
returns-in_err-b-in-None c =
    let p = err_from_is_err_and c.from_residual.result c.from_residual.ensures.1 in
    rw (p.1, p.2)
    (turn_fails c.in_err-b-in-None.field-0.0 (length c.args.bytes.now) c.loop.counter c.loop.made.items c.loop.rest.now _ c.loop-test.true (sym c.in-None.ensures) c.in_err-b-in-None.ensures c.loop.invariant)

pub loop-preserved : goal.loop-preserved
loop-preserved c =
    rw c.in_ok-push-in-None.ensures.items
    (turn_on (length c.args.bytes.now) c.loop.counter c.in_ok-b-in-None.b c.loop.made.items c.loop.rest.now c.in_ok-b-in-None.after.now _ c.loop-test.true (sym c.in-None.ensures) c.in_ok-b-in-None.ensures c.loop.invariant)

pub returns : goal.returns
returns c = rw c.fault.ensures (none_left (length c.args.bytes.now) c.loop.counter c.loop.made.items c.loop.rest.now _ c.loop-test.false c.loop.invariant)
