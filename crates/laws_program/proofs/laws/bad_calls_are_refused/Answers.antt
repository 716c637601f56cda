use Rattle.laws_program.proofs.Refused.{bad_call_refused}
use Rattle.laws_program.proofs.laws.bad_calls_are_refused.Goals as goal

pub returns : goal.returns
returns c = λ program name stands. bad_call_refused program name stands
