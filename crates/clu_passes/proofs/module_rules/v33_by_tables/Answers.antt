use Rattle.clu_passes.proofs.Exports.{v33_is}
use Rattle.clu_passes.proofs.module_rules.v33_by_tables.Goals as goal

pub returns : goal.returns
returns c = λ f shaped have items are. v33_is f shaped have items are
