use Rattle.std.proofs.Common.{false}
use Rattle.clu_types.specs.Arena.{types_of, actuals_at}
use Rattle.clu_types.proofs.Carrying.{grows_on, given_grown, given_more}
use Rattle.clu_operations.proofs.Pushing.{put_is, asked_as}
use Rattle.clu_operations.proofs.parts.push_kept.Goals as goal

pub returns-clause-asks : goal.returns-clause-asks
returns-clause-asks c = λ within below.
    asked_as c.push_demand.result c.push_demand.new.types c.args.finding.now c.push_demand.new.finding _ (actuals_at (types_of c.args.types.now) c.args.actuals.now) c.args.demand.now.param c.args.demand.now.op false _ _
    (given_grown c.args.types.now c.put_in.new.types c.in_ok-wanted.ensures.kept c.args.actuals.now below)
    (put_is (types_of c.put_in.new.types) c.in_ok-wanted.wanted _ (c.in_ok-wanted.ensures.found within below) c.in_ok-wanted.ensures.of_type)
    (c.push_demand.ensures.asks (given_more c.args.types.now c.put_in.new.types c.in_ok-wanted.ensures.kept c.args.actuals.now below) c.in_ok-wanted.ensures.within)

pub returns-clause-kept : goal.returns-clause-kept
returns-clause-kept c = grows_on _ _ _ c.in_ok-wanted.ensures.kept c.push_demand.ensures.kept
