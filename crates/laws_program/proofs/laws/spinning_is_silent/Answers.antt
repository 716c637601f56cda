use Rattle.laws_program.proofs.Refused.{spinning_silent}
use Rattle.laws_program.proofs.laws.spinning_is_silent.Goals as goal

pub returns : goal.returns
returns c = spinning_silent
