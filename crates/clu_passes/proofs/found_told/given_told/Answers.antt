use Rattle.clu_passes.proofs.GivenFound.{round_same}
use Rattle.clu_passes.proofs.found_told.given_told.Goals as goal

pub returns : goal.returns
returns c = round_same
