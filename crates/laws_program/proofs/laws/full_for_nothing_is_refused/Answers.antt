use Rattle.laws_program.proofs.Samples.{full_for_nothing}
use Rattle.laws_program.proofs.laws.full_for_nothing_is_refused.Goals as goal

pub returns : goal.returns
returns c = λ region stands. full_for_nothing region stands
