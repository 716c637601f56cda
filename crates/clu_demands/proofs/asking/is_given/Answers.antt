use Rattle.clu_types.specs.Arena.{type_at, types_of}
use Rattle.clu_demands.proofs.Answering.{given_so, given_not}
use Rattle.clu_demands.proofs.asking.is_given.Goals as goal

pub returns-then-is_of : goal.returns-then-is_of
returns-then-is_of c =
    given_so (types_of c.args.types.now) c.args.n c.args.op.now (type_at (types_of c.args.types.now) c.args.wanted) c.args.demand.now c.is_of.result c.is_of.ensures c.if-is_of.true c.included.result c.included.ensures

pub returns-else-is_of : goal.returns-else-is_of
returns-else-is_of c = given_not (types_of c.args.types.now) c.args.n c.args.op.now (type_at (types_of c.args.types.now) c.args.wanted) c.args.demand.now c.is_of.result c.is_of.ensures c.if-is_of.false
