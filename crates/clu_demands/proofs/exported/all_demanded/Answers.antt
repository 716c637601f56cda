use Rattle.std.proofs.Common.{length, subst, sym, ◌∙◌, ap}
use Rattle.clu_types.specs.Arena.{types_of}
use Rattle.clu_types.proofs.Carrying.{given_more}
use Rattle.clu_demands.specs.Asking.{asked_if, IsBelowIf}
use Rattle.clu_demands.proofs.Exporting.{demand_here, demanded_first, demanded_more, demanded_none, demanded_all}
use Rattle.clu_demands.proofs.exported.all_demanded.Goals as goal

pub loop-demand-init : goal.loop-demand-init
loop-demand-init c = rw c.new-made.ensures.items (demanded_first c.args.from.now c.args.actuals.now c.args.types.now c.args.demands.now)

pub demanded-requires-clause-demand_in : goal.demanded-requires-clause-demand_in
demanded-requires-clause-demand_in c = demand_here _ _ _ c.demand-item.result c.demand-item.is c.requires.demands_in c.loop-demand-test.true

pub demanded-requires-clause-actuals_in : goal.demanded-requires-clause-actuals_in
demanded-requires-clause-actuals_in c = given_more _ _ c.loop-demand.invariant.grows _ c.requires.actuals_in

pub loop-demand-preserved : goal.loop-demand-preserved
loop-demand-preserved c =
    rw c.in_ok-push-in-Some.ensures.items
    (demanded_more c.args.from.now c.args.actuals.now c.args.types.now c.args.demands.now c.loop-demand.types c.demanded.new.types c.loop-demand.demand-index c.demand-item.result c.loop-demand.made.items c.loop-demand-test.true
    c.demand-item.is c.requires.actuals_in c.loop-demand.invariant c.in_ok-next.ensures.kept c.in-Some.asked (subst (IsBelowIf (length c.demanded.new.types)) c.in-Some.is c.in_ok-next.ensures.within) (ap (asked_if (types_of c.demanded.new.types)) (sym c.in-Some.is) ∙ c.in_ok-next.ensures.demanded))

pub returns-in-None-clause-demanded : goal.returns-in-None-clause-demanded
returns-in-None-clause-demanded c =
    demanded_none c.args.from.now c.args.actuals.now c.args.types.now c.args.demands.now c.loop-demand.types c.demanded.new.types c.loop-demand.demand-index c.demand-item.result c.loop-demand.made.items c.loop-demand-test.true
    c.demand-item.is c.requires.actuals_in c.loop-demand.invariant c.in_ok-next.ensures.kept (ap (asked_if (types_of c.demanded.new.types)) (sym c.in-None.is) ∙ c.in_ok-next.ensures.demanded)

pub returns-clause-demanded : goal.returns-clause-demanded
returns-clause-demanded c =
    rw c.from_vec.ensures
    (demanded_all c.args.from.now c.args.actuals.now c.args.types.now c.args.demands.now c.loop-demand.types c.loop-demand.demand-index c.loop-demand.made.items c.loop-demand-test.false c.loop-demand.invariant)
