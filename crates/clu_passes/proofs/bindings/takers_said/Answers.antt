use Rattle.clu_passes.proofs.SetsSaid.{sets_said}
use Rattle.clu_passes.proofs.TakersSaid.{takers_said}
use Rattle.clu_passes.proofs.bindings.takers_said.Goals as goal

pub returns : goal.returns
returns c = λ t r library refused types made.
    takers_said t r library refused types made.values made.parsed made.rounds made.few made.names made.bindings (sets_said t r library refused made.parsed made.names made.bindings)
