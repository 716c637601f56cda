use Rattle.clu_object.specs.Ahead.{constant_skipped}
use Rattle.clu_object.proofs.Skipping.{skip_on, skip_none, skip_end}
use Rattle.clu_object.proofs.counts_ahead.skip_constants.Goals as goal

pub loop-preserved : goal.loop-preserved
loop-preserved c = skip_on constant_skipped c.args.count c.loop.counter c.loop.rest.now c.in-Some.after.now _ c.loop-test.true c.in-Some.ensures c.loop.invariant

pub returns-in-None : goal.returns-in-None
returns-in-None c = skip_none constant_skipped c.args.count c.loop.counter c.loop.rest.now _ c.loop-test.true c.in-None.ensures c.loop.invariant

pub returns : goal.returns
returns c = skip_end constant_skipped c.args.count c.loop.counter c.loop.rest.now _ c.loop-test.false c.loop.invariant
