use Rattle.clu_passes.proofs.ByNodes.{circular_same}
use Rattle.clu_passes.proofs.circles.circular_by_nodes.Goals as goal

pub returns : goal.returns
returns c = circular_same
