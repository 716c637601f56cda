use Rattle.clu_head.proofs.Whole.{kind_lost}
use Rattle.clu_head.proofs.specs.all_kinds.Goals as goal

pub returns-in-None-clause-whole : goal.returns-in-None-clause-whole
returns-in-None-clause-whole c = λ are. kind_lost c.args.kinds.now c.loop-kind.kind-index _ c.loop-kind-test.true c.in-None.is are
