use Rattle.clu_passes.proofs.ParameterKinds.{kinds_are}
use Rattle.clu_passes.proofs.types.kinds_told.Goals as goal

pub returns : goal.returns
returns c = kinds_are
