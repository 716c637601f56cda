use Rattle.laws_program.proofs.Samples.{writes}
use Rattle.laws_program.proofs.laws.a_program_writes.Goals as goal

pub returns : goal.returns
returns c = λ region. writes region
