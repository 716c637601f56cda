use Rattle.clu_passes.proofs.OperandsGiven.{operands_given}
use Rattle.clu_passes.proofs.found_told.operands_told.Goals as goal

pub returns : goal.returns
returns c = λ t f parsed terms types n. operands_given f n terms types t parsed
