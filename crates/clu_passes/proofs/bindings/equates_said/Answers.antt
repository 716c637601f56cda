use Rattle.clu_passes.proofs.EquatesSaid.{equates_said}
use Rattle.clu_passes.proofs.bindings.equates_said.Goals as goal

pub returns : goal.returns
returns c = equates_said
