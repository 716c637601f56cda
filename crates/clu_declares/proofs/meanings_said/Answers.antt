use Rattle.clu_declares.proofs.Each.{are_meanings}
use Rattle.clu_declares.proofs.meanings_said.Goals as goal

pub returns : goal.returns
returns c t nodes rounds parsed are few = are_meanings t nodes rounds parsed are few
