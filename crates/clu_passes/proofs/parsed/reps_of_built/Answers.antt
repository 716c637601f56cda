use Rattle.clu_passes.proofs.RepsOfBuilt.{reps_of_built}
use Rattle.clu_passes.proofs.parsed.reps_of_built.Goals as goal

pub returns : goal.returns
returns c = reps_of_built
