use Rattle.clu_passes.proofs.SpecsKept.{specification_is}
use Rattle.clu_passes.proofs.head_specs.specifications_kept.Goals as goal

pub returns : goal.returns
returns c = specification_is
