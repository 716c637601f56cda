use Rattle.clu_passes.proofs.Seen.{type_told}
use Rattle.clu_passes.proofs.types.type_told.Goals as goal

pub returns : goal.returns
returns c = type_told
