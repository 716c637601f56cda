use Rattle.clu_passes.proofs.HeadsSaid.{heads_said}
use Rattle.clu_passes.proofs.specifications.heads_told.Goals as goal

pub returns : goal.returns
returns c = heads_said
