use Rattle.clu_passes.proofs.AppliedFound.{stands_so}
use Rattle.clu_passes.proofs.found_told.applied_told.Goals as goal

pub returns : goal.returns
returns c = stands_so
