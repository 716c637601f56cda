use Rattle.clu_passes.proofs.OpersLost.{opers_lost}
use Rattle.clu_passes.proofs.demands_known.opers_refused.Goals as goal

pub returns : goal.returns
returns c = opers_lost
