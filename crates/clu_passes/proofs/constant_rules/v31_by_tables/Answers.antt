use Rattle.clu_passes.proofs.Words.{v31_is}
use Rattle.clu_passes.proofs.constant_rules.v31_by_tables.Goals as goal

pub returns : goal.returns
returns c = v31_is
