use Rattle.clu_passes.proofs.NodeSaid.{node_read}
use Rattle.clu_passes.proofs.noted_lists.node_read.Goals as goal

pub returns : goal.returns
returns c = node_read
