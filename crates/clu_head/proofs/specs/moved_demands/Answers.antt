use Rattle.std.proofs.Common.{◌∙◌, sym}
use Rattle.clu_types.proofs.Carrying.{grows_on}
use Rattle.clu_head.proofs.Keeping.{demands_next, demands_all}
use Rattle.clu_head.proofs.Whole.{demand_whole}
use Rattle.clu_head.proofs.specs.moved_demands.Goals as goal

pub returns-then-not-branch-clause-whole : goal.returns-then-not-branch-clause-whole
returns-then-not-branch-clause-whole c = λ all.
    sym c.if-not-branch.true
    ∙ c.in_ok-push_demand.ensures.whole (demand_whole c.args.from.now c.args.demands.now c.loop-demand.demand-index c.demand-item.result c.loop-demand-test.true c.demand-item.is all)

pub returns-then-not-branch-clause-kept : goal.returns-then-not-branch-clause-kept
returns-then-not-branch-clause-kept c = grows_on _ _ _ c.loop-demand.invariant.kept c.push_demand.ensures.kept

pub loop-demand-preserved : goal.loop-demand-preserved
loop-demand-preserved c = record {
  made = demands_next c.args.from.now c.loop-demand.to c.push_demand.new.to c.push_demand.ensures.kept c.args.demands.now c.loop-demand.demand-index c.demand-item.result c.loop-demand-test.true c.demand-item.is
      c.loop-demand.all.items c.push_demand.new.all.items c.loop-demand.invariant.made (c.in_ok-push_demand.ensures.more c.if-not-branch.false);
  kept = grows_on _ _ _ c.loop-demand.invariant.kept c.push_demand.ensures.kept;
}

pub returns-clause-demands : goal.returns-clause-demands
returns-clause-demands c =
    demands_all c.args.from.now c.loop-demand.to c.args.demands.now c.loop-demand.demand-index c.loop-demand.all.items c.from_vec.result c.loop-demand-test.false c.from_vec.ensures c.loop-demand.invariant.made
