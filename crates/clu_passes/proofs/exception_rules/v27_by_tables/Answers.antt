use Rattle.clu_passes.proofs.Exits.{v27_is}
use Rattle.clu_passes.proofs.exception_rules.v27_by_tables.Goals as goal

pub returns : goal.returns
returns c = v27_is
