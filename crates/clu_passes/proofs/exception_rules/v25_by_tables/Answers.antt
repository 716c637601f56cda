use Rattle.clu_passes.proofs.Listed.{v25_is}
use Rattle.clu_passes.proofs.exception_rules.v25_by_tables.Goals as goal

pub returns : goal.returns
returns c = v25_is
