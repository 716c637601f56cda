use Rattle.clu_passes.proofs.TableFields.{marks_told}
use Rattle.clu_passes.proofs.made_tables.marks_told.Goals as goal

pub returns : goal.returns
returns c = marks_told
