use Rattle.clu_passes.proofs.ArmNames.{v24_is}
use Rattle.clu_passes.proofs.fact_rules.v24_by_tables.Goals as goal

pub returns : goal.returns
returns c = v24_is
