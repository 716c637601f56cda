use Rattle.clu_passes.proofs.RefusedBelow.{agree_where_lost}
use Rattle.clu_passes.proofs.losing.agree_where_lost.Goals as goal

pub returns : goal.returns
returns c = agree_where_lost
