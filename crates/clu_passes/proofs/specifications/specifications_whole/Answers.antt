use Rattle.clu_passes.proofs.WholeSpecifications.{specifications_whole}
use Rattle.clu_passes.proofs.specifications.specifications_whole.Goals as goal

pub returns : goal.returns
returns c = specifications_whole
