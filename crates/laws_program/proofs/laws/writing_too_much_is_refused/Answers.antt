use Rattle.laws_program.proofs.Samples.{too_much}
use Rattle.laws_program.proofs.laws.writing_too_much_is_refused.Goals as goal

pub returns : goal.returns
returns c = λ stands. too_much stands
