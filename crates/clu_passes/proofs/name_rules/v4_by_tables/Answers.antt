use Rattle.clu_passes.proofs.Literals.{v4_is}
use Rattle.clu_passes.proofs.name_rules.v4_by_tables.Goals as goal

pub returns : goal.returns
returns c = v4_is
