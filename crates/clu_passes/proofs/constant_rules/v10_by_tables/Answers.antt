use Rattle.clu_passes.proofs.Words.{v10_is}
use Rattle.clu_passes.proofs.constant_rules.v10_by_tables.Goals as goal

pub returns : goal.returns
returns c = v10_is
