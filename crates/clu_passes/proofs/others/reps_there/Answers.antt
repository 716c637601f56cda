use Rattle.clu_passes.proofs.OthersReps.{reps_there}
use Rattle.clu_passes.proofs.others.reps_there.Goals as goal

pub returns : goal.returns
returns c = λ t f parsed of parents all named. reps_there t f parsed of parents all named
