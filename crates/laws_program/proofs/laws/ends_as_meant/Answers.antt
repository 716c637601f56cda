use Rattle.laws_program.proofs.Following.{ends_as_meant}
use Rattle.laws_program.proofs.laws.ends_as_meant.Goals as goal

pub returns : goal.returns
returns c = λ image program name stands. ends_as_meant image program name stands
