use Rattle.std.proofs.Common.{ap, sym, subst, ◌∙◌}
use Rattle.std.proofs.lemmas.Result.{err_from_is_err_and}
use Rattle.clu_specs.specs.Reading.{Fails}
use Rattle.clu_format.proofs.Counting.{turn_on, turn_fails, all_made}
use Rattle.clu_object.specs.ObjectReading.{hole_read, next_hole_read}
use Rattle.clu_object.proofs.HoleLaws.{least_pushed}
use Rattle.clu_object.proofs.read_holes.more_holes_at.Goals as goal

pub loop-preserved : goal.loop-preserved
loop-preserved c =
    record {
      least = rw c.in_ok-push.ensures.items (sym (least_pushed 0 c.loop.holes.items c.in_ok-hole.hole));
      so_far =
          rw c.in_ok-push.ensures.items
          (turn_on (next_hole_read c.args.code.now c.args.ahead) c.args.count c.loop.counter c.loop.holes.items c.in_ok-hole.hole c.loop.rest.now c.in_ok-hole.after.now _ c.loop-test.true
          (ap (λ least. hole_read c.args.code.now c.args.ahead least c.loop.rest.now) (sym c.loop.invariant.least) ∙ c.in_ok-hole.ensures) c.loop.invariant.so_far);
    }

pub returns-in_err-hole : goal.returns-in_err-hole
returns-in_err-hole c =
    let p = err_from_is_err_and c.from_residual.result c.from_residual.ensures.1 in
    rw (p.1, p.2)
    (turn_fails (next_hole_read c.args.code.now c.args.ahead) c.in_err-hole.field-0.0 c.args.count c.loop.counter c.loop.holes.items c.loop.rest.now _ c.loop-test.true
    (subst (λ least. Fails c.in_err-hole.field-0.0 (hole_read c.args.code.now c.args.ahead least c.loop.rest.now)) c.loop.invariant.least c.in_err-hole.ensures) c.loop.invariant.so_far)

pub returns : goal.returns
returns c = rw c.from_vec.ensures (all_made (next_hole_read c.args.code.now c.args.ahead) c.args.count c.loop.counter c.loop.holes.items c.loop.rest.now _ c.loop-test.false c.loop.invariant.so_far)
