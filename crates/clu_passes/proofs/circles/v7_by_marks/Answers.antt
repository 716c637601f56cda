use Rattle.clu_passes.proofs.Marked.{v7_is}
use Rattle.clu_passes.proofs.circles.v7_by_marks.Goals as goal

pub returns : goal.returns
returns c = v7_is
