use Rattle.clu_passes.proofs.Marked.{circular_is}
use Rattle.clu_passes.proofs.circles.circular_found.Goals as goal

pub returns : goal.returns
returns c = circular_is
