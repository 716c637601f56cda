use Rattle.clu_passes.proofs.OperationsFound.{itself_found}
use Rattle.clu_passes.proofs.found_told.modules_found.Goals as goal

pub returns : goal.returns
returns c = itself_found
