use Rattle.clu_passes.proofs.TargetsMean.{targets_mean}
use Rattle.clu_passes.proofs.bindings.targets_mean.Goals as goal

pub returns : goal.returns
returns c = targets_mean
