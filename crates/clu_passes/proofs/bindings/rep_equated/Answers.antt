use Rattle.clu_passes.proofs.RepsSaid.{rep_equated}
use Rattle.clu_passes.proofs.bindings.rep_equated.Goals as goal

pub returns : goal.returns
returns c = rep_equated
