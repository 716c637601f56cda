use Rattle.clu_types.specs.Arena.{types_of, actuals_at}
use Rattle.clu_demands.proofs.Exporting.{one_demanded}
use Rattle.clu_demands.proofs.exported.demanded_of.Goals as goal

pub returns-clause-demanded : goal.returns-clause-demanded
returns-clause-demanded c =
    one_demanded (types_of c.args.from.now) (actuals_at (types_of c.args.types.now) c.args.actuals.now) c.args.demand.now c.args.types.now c.carry.new.self c.in_ok-wanted.ensures.kept c.args.of c.requires.of_in
    c.in_ok-op.op c.in_ok-op.ensures c.in_ok-wanted.wanted c.in_ok-wanted.ensures.of_type
