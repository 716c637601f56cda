use Rattle.clu_passes.proofs.KnownAscend.{tags_ascend}
use Rattle.clu_passes.proofs.ascending.tags_ascend.Goals as goal

pub returns : goal.returns
returns c = tags_ascend
