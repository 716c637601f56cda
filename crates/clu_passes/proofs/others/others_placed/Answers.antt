use Rattle.clu_passes.proofs.OthersPlaced.{others_placed}
use Rattle.clu_passes.proofs.others.others_placed.Goals as goal

pub returns : goal.returns
returns c = others_placed
