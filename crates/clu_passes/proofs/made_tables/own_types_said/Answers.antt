use Rattle.clu_passes.proofs.OwnTable.{own_said}
use Rattle.clu_passes.proofs.made_tables.own_types_said.Goals as goal

pub returns : goal.returns
returns c = own_said
