use Rattle.clu_passes.proofs.Constants.{v8_is}
use Rattle.clu_passes.proofs.constant_rules.v8_by_tables.Goals as goal

pub returns : goal.returns
returns c = v8_is
