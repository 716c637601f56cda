use Rattle.clu_passes.proofs.LostRefused.{lost_refused}
use Rattle.clu_passes.proofs.losing.lost_refused.Goals as goal

pub returns : goal.returns
returns c = lost_refused
