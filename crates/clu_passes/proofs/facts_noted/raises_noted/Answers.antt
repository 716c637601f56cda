use Rattle.clu_passes.proofs.RaisesNoted.{raises_same}
use Rattle.clu_passes.proofs.facts_noted.raises_noted.Goals as goal

pub returns : goal.returns
returns c = raises_same
