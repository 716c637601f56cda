use Rattle.laws_program.proofs.Refused.{full_at_once_refused}
use Rattle.laws_program.proofs.laws.full_at_once_is_refused.Goals as goal

pub returns : goal.returns
returns c = λ region program name writes stands. full_at_once_refused region program name writes stands
