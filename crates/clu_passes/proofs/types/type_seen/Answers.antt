use Rattle.clu_passes.proofs.Seen.{seen_told}
use Rattle.clu_passes.proofs.types.type_seen.Goals as goal

pub returns : goal.returns
returns c = seen_told
