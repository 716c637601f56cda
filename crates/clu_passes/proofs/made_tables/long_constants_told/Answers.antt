use Rattle.clu_passes.proofs.LongTexts.{long_constants_told}
use Rattle.clu_passes.proofs.made_tables.long_constants_told.Goals as goal

pub returns : goal.returns
returns c = long_constants_told
