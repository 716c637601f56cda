use Rattle.clu_passes.proofs.Actuals.{v19_is}
use Rattle.clu_passes.proofs.constant_rules.v19_by_tables.Goals as goal

pub returns : goal.returns
returns c = v19_is
