use Rattle.clu_passes.proofs.Sides.{right_sides}
use Rattle.clu_passes.proofs.parsed.right_sides.Goals as goal

pub returns : goal.returns
returns c = right_sides
