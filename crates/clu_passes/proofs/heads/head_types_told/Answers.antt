use Rattle.clu_passes.proofs.HeadTypes.{head_type}
use Rattle.clu_passes.proofs.heads.head_types_told.Goals as goal

pub returns : goal.returns
returns c = head_type
