use Rattle.clu_passes.proofs.DeclaredParameters.{parameters_declared}
use Rattle.clu_passes.proofs.bindings.parameters_declared.Goals as goal

pub returns : goal.returns
returns c = parameters_declared
