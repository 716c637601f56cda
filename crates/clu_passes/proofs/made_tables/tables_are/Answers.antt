use Rattle.clu_passes.proofs.TablesMade.{tables_are}
use Rattle.clu_passes.proofs.made_tables.tables_are.Goals as goal

pub returns : goal.returns
returns c = tables_are
