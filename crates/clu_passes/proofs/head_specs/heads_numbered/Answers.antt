use Rattle.clu_passes.proofs.HeadNumbers.{numbered}
use Rattle.clu_passes.proofs.head_specs.heads_numbered.Goals as goal

pub returns : goal.returns
returns c = numbered
