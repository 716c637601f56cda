use Rattle.clu_passes.proofs.HeadParts.{parts_below}
use Rattle.clu_passes.proofs.heads.head_parts_below.Goals as goal

pub returns : goal.returns
returns c = parts_below
