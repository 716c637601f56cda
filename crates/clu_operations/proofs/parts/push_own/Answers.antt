use Rattle.clu_operations.proofs.Pushing.{pushed_first, pushed_more, pushed_all}
use Rattle.clu_operations.proofs.parts.push_own.Goals as goal

pub loop-at-init : goal.loop-at-init
loop-at-init c = pushed_first c.args.types.now c.args.finding.now c.args.actuals.now c.args.demands.now c.args.shown

pub loop-at-preserved : goal.loop-at-preserved
loop-at-preserved c =
    pushed_more c.args.types.now c.args.finding.now c.args.actuals.now c.args.demands.now c.args.shown c.loop-at.types c.push_shown.new.types c.loop-at.finding c.push_shown.new.finding c.loop-at.at c.index-demands-at.result
    c.loop-at-test.true c.index-demands-at.is c.loop-at.invariant c.in_ok-push_shown.ensures.kept c.in_ok-push_shown.ensures.asks

pub returns-clause-asks : goal.returns-clause-asks
returns-clause-asks c = pushed_all c.args.types.now c.args.finding.now c.args.actuals.now c.args.demands.now c.args.shown c.loop-at.types c.loop-at.finding c.loop-at.at c.loop-at-test.false c.loop-at.invariant
