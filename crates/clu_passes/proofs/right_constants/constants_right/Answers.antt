use Rattle.clu_passes.proofs.ConstantsRight.{constants_right}
use Rattle.clu_passes.proofs.right_constants.constants_right.Goals as goal

pub returns : goal.returns
returns c = constants_right
