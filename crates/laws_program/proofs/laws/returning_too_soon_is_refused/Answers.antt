use Rattle.laws_program.proofs.Samples.{too_soon}
use Rattle.laws_program.proofs.laws.returning_too_soon_is_refused.Goals as goal

pub returns : goal.returns
returns c = λ stands. too_soon stands
