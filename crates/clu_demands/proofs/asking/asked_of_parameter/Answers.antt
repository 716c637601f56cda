use Rattle.clu_types.specs.Arena.{type_at, types_of}
use Rattle.clu_demands.proofs.Answering.{given_asks}
use Rattle.clu_demands.proofs.asking.asked_of_parameter.Goals as goal

pub returns-then-gives-clause-asks : goal.returns-then-gives-clause-asks
returns-then-gives-clause-asks c = rw (c.from_vec.ensures, c.new.ensures.items) (c.gives.ensures.0 c.if-gives.true)

pub returns-then-gives-clause-within : goal.returns-then-gives-clause-within
returns-then-gives-clause-within c = rw (c.from_vec.ensures, c.new.ensures.items) tt

pub returns-else-gives-clause-asks : goal.returns-else-gives-clause-asks
returns-else-gives-clause-asks c =
    given_asks (types_of c.args.types.now) c.args.given.now c.args.n c.args.need.now.op (type_at (types_of c.args.types.now) c.args.need.now.wanted)
    (λ h. let found = c.gives.ensures.1 h in let none = c.if-gives.false in cc)
