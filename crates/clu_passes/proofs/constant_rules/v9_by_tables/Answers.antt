use Rattle.clu_passes.proofs.Constants.{v9_is}
use Rattle.clu_passes.proofs.constant_rules.v9_by_tables.Goals as goal

pub returns : goal.returns
returns c = v9_is
