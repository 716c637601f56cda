use Rattle.std.proofs.Common.{sym}
use Rattle.clu_types.specs.Arena.{type_at, types_of, actuals_at}
use Rattle.clu_demands.proofs.Exporting.{of_cluster, no_cluster}
use Rattle.clu_demands.proofs.exported.asked_of_cluster.Goals as goal

pub returns-in-Some-clause-asks : goal.returns-in-Some-clause-asks
returns-in-Some-clause-asks c =
    of_cluster c.args.specs.now c.args.name.now (actuals_at (types_of c.args.types.now) c.args.actuals.now) c.args.op.now (type_at (types_of c.args.types.now) c.args.wanted) c.in-Some.spec.now c.in-Some.ensures _ _ c.asked_of_spec.ensures.asks

pub returns-in-None-clause-asks : goal.returns-in-None-clause-asks
returns-in-None-clause-asks c =
    no_cluster c.args.specs.now c.args.name.now (actuals_at (types_of c.args.types.now) c.args.actuals.now) c.args.op.now (type_at (types_of c.args.types.now) c.args.wanted) c.in-None.ensures
