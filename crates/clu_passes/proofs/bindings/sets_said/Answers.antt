use Rattle.clu_passes.proofs.SetsSaid.{sets_said}
use Rattle.clu_passes.proofs.bindings.sets_said.Goals as goal

pub returns : goal.returns
returns c = sets_said
