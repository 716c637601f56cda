use Rattle.clu_syntax.proofs.Enough.{enough}
use Rattle.clu_syntax.proofs.syntax.Syntax.node.Goals as goal

pub returns-clause-enough : goal.returns-clause-enough
returns-clause-enough c = enough c.self.inside.tree c.self.invariant c.args.n c.node.result.now c.node.ensures.node
