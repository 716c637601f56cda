use Rattle.std.proofs.Common.{ap, sym, subst, ◌∙◌, ◌≡◌, length, arith, ◌+◌}
use Rattle.std.proofs.lemmas.Result.{err_from_is_err_and}
use Rattle.clu_specs.specs.Reading.{Fails}
use Rattle.clu_format.proofs.Counting.{turn_on, turn_fails, all_made}
use Rattle.clu_object.specs.Nesting.{span}
use Rattle.clu_object.specs.ObjectReading.{region_read, next_region_read}
use Rattle.clu_object.proofs.Turns.{spans_on, size_on}
use Rattle.clu_object.proofs.read_regions.more_regions_at.Goals as goal

pub loop-preserved : goal.loop-preserved
loop-preserved c =
    let size : length c.region_at.new.ranges ≡ length c.loop.ranges + 1 = size_on c.loop.ranges c.region_at.new.ranges (span c.in_ok-region.region) c.in_ok-region.ensures.added in
    record {
      count = omega (arith, size, c.loop.invariant.count);
      placed = rw c.in_ok-push.ensures.items (spans_on c.loop.ranges c.region_at.new.ranges c.loop.regions.items c.in_ok-region.region c.in_ok-region.ensures.added c.loop.invariant.placed);
      so_far =
          rw c.in_ok-push.ensures.items
          (turn_on (next_region_read c.args.words) c.args.count c.loop.counter c.loop.regions.items c.in_ok-region.region c.loop.rest.now c.in_ok-region.after.now _ c.loop-test.true
          (ap (λ before. region_read c.args.words before c.loop.rest.now) (sym c.loop.invariant.placed) ∙ c.in_ok-region.ensures.reads) c.loop.invariant.so_far);
    }

pub returns-in_err-region : goal.returns-in_err-region
returns-in_err-region c =
    let p = err_from_is_err_and c.from_residual.result c.from_residual.ensures.1 in
    rw (p.1, p.2)
    (turn_fails (next_region_read c.args.words) c.in_err-region.field-0.0 c.args.count c.loop.counter c.loop.regions.items c.loop.rest.now _ c.loop-test.true
    (subst (λ before. Fails c.in_err-region.field-0.0 (region_read c.args.words before c.loop.rest.now)) c.loop.invariant.placed c.in_err-region.ensures.reads) c.loop.invariant.so_far)

pub returns : goal.returns
returns c = rw c.from_vec.ensures (all_made (next_region_read c.args.words) c.args.count c.loop.counter c.loop.regions.items c.loop.rest.now _ c.loop-test.false c.loop.invariant.so_far)
