use Rattle.laws_program.proofs.Following.{one_meaning}
use Rattle.laws_program.proofs.laws.one_meaning.Goals as goal

pub returns : goal.returns
returns c = λ image one other name stands also. one_meaning image one other name stands also
