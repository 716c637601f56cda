use Rattle.clu_passes.proofs.TableFields.{names_told}
use Rattle.clu_passes.proofs.made_tables.names_told.Goals as goal

pub returns : goal.returns
returns c = names_told
