use Rattle.clu_passes.proofs.Marked.{circle_is}
use Rattle.clu_passes.proofs.circles.circle_by_mark.Goals as goal

pub returns : goal.returns
returns c = circle_is
