use Rattle.clu_passes.proofs.SettledAscend.{type_settled_ascends}
use Rattle.clu_passes.proofs.ascending.settled_ascend.Goals as goal

pub returns : goal.returns
returns c = type_settled_ascends
