use Rattle.clu_types.specs.Arena.{type_at, types_of, actuals_at}
use Rattle.clu_demands.proofs.Exporting.{of_named, no_named}
use Rattle.clu_demands.proofs.exported.asked_of_named.Goals as goal

pub returns-in-Some-clause-asks : goal.returns-in-Some-clause-asks
returns-in-Some-clause-asks c =
    of_named c.args.spec.now (actuals_at (types_of c.args.types.now) c.args.actuals.now) c.args.op.now (type_at (types_of c.args.types.now) c.args.wanted) c.in-Some.routine.now c.in-Some.ensures _ _ c.asked_of_routine.ensures.asks

pub returns-in-None-clause-asks : goal.returns-in-None-clause-asks
returns-in-None-clause-asks c =
    no_named c.args.spec.now (actuals_at (types_of c.args.types.now) c.args.actuals.now) c.args.op.now (type_at (types_of c.args.types.now) c.args.wanted) c.in-None.ensures
