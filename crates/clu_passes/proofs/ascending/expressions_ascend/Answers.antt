use Rattle.clu_passes.proofs.ExpressionsAscend.{expression_up}
use Rattle.clu_passes.proofs.ascending.expressions_ascend.Goals as goal

pub returns : goal.returns
returns c = expression_up
