use Rattle.clu_passes.proofs.LongTexts.{long_types_told}
use Rattle.clu_passes.proofs.made_tables.long_types_told.Goals as goal

pub returns : goal.returns
returns c = long_types_told
