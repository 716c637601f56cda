use Rattle.laws_program.proofs.Refused.{silence}
use Rattle.laws_program.proofs.laws.silence_is_refused.Goals as goal

pub returns : goal.returns
returns c = λ image program name silent writes stands. silence image program name silent writes stands
