use Rattle.clu_passes.proofs.CountsRound.{counts_round}
use Rattle.clu_passes.proofs.found_told.sets_counted.Goals as goal

pub returns : goal.returns
returns c = counts_round
