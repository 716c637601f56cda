use Rattle.clu_passes.proofs.FaultsFound.{first_found}
use Rattle.clu_passes.proofs.refusing.least_found.Goals as goal

pub returns : goal.returns
returns c = first_found
