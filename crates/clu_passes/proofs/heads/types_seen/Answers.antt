use Rattle.clu_passes.proofs.Outside.{all_told}
use Rattle.clu_passes.proofs.heads.types_seen.Goals as goal

pub returns : goal.returns
returns c = all_told
