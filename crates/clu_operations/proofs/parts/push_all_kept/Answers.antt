use Rattle.clu_operations.proofs.Pushing.{kept_first, kept_more, kept_all}
use Rattle.clu_operations.proofs.parts.push_all_kept.Goals as goal

pub loop-demand-init : goal.loop-demand-init
loop-demand-init c = kept_first c.args.from.now c.args.types.now c.args.finding.now c.args.actuals.now c.args.demands.now

pub loop-demand-preserved : goal.loop-demand-preserved
loop-demand-preserved c =
    kept_more c.args.from.now c.args.types.now c.args.finding.now c.args.actuals.now c.args.demands.now c.loop-demand.types c.push_kept.new.types c.loop-demand.finding c.push_kept.new.finding c.loop-demand.demand-index c.demand-item.result
    c.loop-demand-test.true c.demand-item.is c.loop-demand.invariant c.in_ok-push_kept.ensures.kept c.in_ok-push_kept.ensures.asks

pub returns-clause-asks : goal.returns-clause-asks
returns-clause-asks c = kept_all c.args.from.now c.args.types.now c.args.finding.now c.args.actuals.now c.args.demands.now c.loop-demand.types c.loop-demand.finding c.loop-demand.demand-index c.loop-demand-test.false c.loop-demand.invariant
