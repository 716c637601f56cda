use Rattle.clu_passes.proofs.NamesMean.{first_means}
use Rattle.clu_passes.proofs.bindings.names_mean.Goals as goal

pub returns : goal.returns
returns c = first_means
