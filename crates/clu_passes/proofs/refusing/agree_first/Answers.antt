use Rattle.clu_passes.proofs.FaultsFound.{agree_first}
use Rattle.clu_passes.proofs.refusing.agree_first.Goals as goal

pub returns : goal.returns
returns c = agree_first
