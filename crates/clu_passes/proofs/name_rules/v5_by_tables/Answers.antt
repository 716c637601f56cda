use Rattle.clu_passes.proofs.Unknown.{v5_is}
use Rattle.clu_passes.proofs.name_rules.v5_by_tables.Goals as goal

pub returns : goal.returns
returns c = λ f names are meanings mean. v5_is f names are meanings mean
