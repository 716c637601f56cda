use Rattle.clu_passes.proofs.Leaving.{v29_is}
use Rattle.clu_passes.proofs.statement_rules.v29_by_tables.Goals as goal

pub returns : goal.returns
returns c = λ f stand parts are. v29_is f stand parts are
