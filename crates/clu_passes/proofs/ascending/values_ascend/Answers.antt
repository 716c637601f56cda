use Rattle.clu_passes.proofs.KnownAscend.{values_ascend}
use Rattle.clu_passes.proofs.ascending.values_ascend.Goals as goal

pub returns : goal.returns
returns c = values_ascend
