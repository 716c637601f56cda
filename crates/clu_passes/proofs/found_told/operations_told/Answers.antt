use Rattle.clu_passes.proofs.OperationsFound.{operation_same}
use Rattle.clu_passes.proofs.found_told.operations_told.Goals as goal

pub returns : goal.returns
returns c = operation_same
