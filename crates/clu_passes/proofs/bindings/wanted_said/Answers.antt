use Rattle.clu_passes.proofs.WantedSaid.{wanted_said}
use Rattle.clu_passes.proofs.bindings.wanted_said.Goals as goal

pub returns : goal.returns
returns c = wanted_said
