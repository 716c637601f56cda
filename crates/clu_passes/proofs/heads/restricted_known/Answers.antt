use Rattle.clu_passes.proofs.RestrictedKnown.{restricted_known}
use Rattle.clu_passes.proofs.heads.restricted_known.Goals as goal

pub returns : goal.returns
returns c = restricted_known
