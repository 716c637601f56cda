use Rattle.clu_passes.proofs.HeadTypesFit.{types_fit}
use Rattle.clu_passes.proofs.head_specs.head_types_fit.Goals as goal

pub returns : goal.returns
returns c = types_fit
