use Rattle.clu_declares.proofs.Rights.{right_file}
use Rattle.clu_declares.proofs.bindings_said.Goals as goal

pub returns : goal.returns
returns c t nodes rounds parsed are n name h = right_file t nodes rounds parsed are n name h
