use Rattle.clu_passes.proofs.RestrictedAll.{restricted_all}
use Rattle.clu_passes.proofs.demands_known.restricts_known.Goals as goal

pub returns : goal.returns
returns c = restricted_all
