use Rattle.clu_operations.proofs.Entered.{some_first, some_more, some_all}
use Rattle.clu_operations.proofs.clauses.enter.Goals as goal

pub loop-demand-init : goal.loop-demand-init
loop-demand-init c = some_first c.args.n c.args.demands.now c.args.finding.now

pub loop-demand-preserved : goal.loop-demand-preserved
loop-demand-preserved c =
    some_more c.args.n c.args.demands.now c.args.finding.now c.loop-demand.finding c.enter_one.new.finding c.loop-demand.demand-index c.demand-item.result c.loop-demand-test.true c.demand-item.is c.loop-demand.invariant
    c.in_ok-enter_one.ensures.entered c.in_ok-enter_one.ensures.words

pub returns-clause-entered : goal.returns-clause-entered
returns-clause-entered c = some_all c.args.n c.args.demands.now c.args.finding.now c.loop-demand.finding c.loop-demand.demand-index c.loop-demand-test.false c.loop-demand.invariant

pub returns-clause-words : goal.returns-clause-words
returns-clause-words c = c.loop-demand.invariant.words
