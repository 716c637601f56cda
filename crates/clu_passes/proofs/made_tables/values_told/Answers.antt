use Rattle.clu_passes.proofs.TableFields.{values_told}
use Rattle.clu_passes.proofs.made_tables.values_told.Goals as goal

pub returns : goal.returns
returns c = values_told
