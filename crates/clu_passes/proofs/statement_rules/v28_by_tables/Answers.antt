use Rattle.clu_passes.proofs.Leaving.{v28_is}
use Rattle.clu_passes.proofs.statement_rules.v28_by_tables.Goals as goal

pub returns : goal.returns
returns c = λ f n. v28_is f n
