use Rattle.clu_declares.proofs.Few.{few_declared}
use Rattle.clu_declares.proofs.few_declared.Goals as goal

pub returns : goal.returns
returns c t nodes rounds tokens parsed file small = few_declared t nodes rounds tokens parsed file small
