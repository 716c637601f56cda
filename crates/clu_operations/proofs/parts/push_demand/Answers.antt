use Rattle.std.proofs.Common.{option_map, sym, subst, Option}
use Rattle.clu_types.specs.Arena.{type_at, types_of, actuals_at}
use Rattle.clu_types.specs.declared.term.TypeId.{TypeId}
use Rattle.clu_operations.specs.Asked.{AsksMore}
use Rattle.clu_operations.specs.Told.{asked_of}
use Rattle.clu_operations.proofs.Asks.{asks_none}
use Rattle.clu_operations.proofs.parts.push_demand.Goals as goal

pub returns-in-None-clause-asks : goal.returns-in-None-clause-asks
returns-in-None-clause-asks c = λ below within.
    subst
    (λ (o : Option TypeId). AsksMore c.args.types.now c.args.finding.now c.args.finding.now (asked_of (actuals_at (types_of c.args.types.now) c.args.actuals.now) c.args.parameter c.args.operation.now c.args.in_set (option_map (type_at (types_of c.args.types.now)) o)))
    (sym c.in-None.is) (asks_none c.args.types.now c.args.finding.now)
