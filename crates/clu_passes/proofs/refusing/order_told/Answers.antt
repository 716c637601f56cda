use Rattle.clu_passes.proofs.OrderTold.{order_told}
use Rattle.clu_passes.proofs.refusing.order_told.Goals as goal

pub returns : goal.returns
returns c = order_told
