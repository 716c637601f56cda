use Rattle.clu_passes.proofs.AskedTells.{tells}
use Rattle.clu_passes.proofs.demands_known.asked_tells.Goals as goal

pub returns : goal.returns
returns c = tells
