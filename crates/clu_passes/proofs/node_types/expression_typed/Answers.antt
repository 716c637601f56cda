use Rattle.clu_passes.proofs.NodeTyped.{expression_typed}
use Rattle.clu_passes.proofs.node_types.expression_typed.Goals as goal

pub returns : goal.returns
returns c = expression_typed
