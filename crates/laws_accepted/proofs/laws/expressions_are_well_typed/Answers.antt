use Rattle.laws_accepted.proofs.WholeExpressions.{is_typed}
use Rattle.laws_accepted.proofs.laws.expressions_are_well_typed.Goals as goal

pub returns : goal.returns
returns c = λ f program routines s r home context rs e h raise. is_typed f program routines s r home context rs e h raise
