use Rattle.clu_head.proofs.Whole.{type_not_there}
use Rattle.clu_head.proofs.specs.moved.Goals as goal

pub returns-else-contains-clause-whole : goal.returns-else-contains-clause-whole
returns-else-contains-clause-whole c = λ has. absurd (type_not_there c.args.from.now c.args.id c.in-Some.id c.contains.result c.in-Some.is c.contains.ensures.1 c.if-contains.false has)
