use Rattle.clu_passes.proofs.AskedEach.{each_asked}
use Rattle.clu_passes.proofs.head_specs.asked_of_each.Goals as goal

pub returns : goal.returns
returns c = each_asked
