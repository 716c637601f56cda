use Rattle.clu_passes.proofs.Sugared.{literals_said, constants_said}
use Rattle.clu_passes.proofs.operators.constants_typed.Goals as goal

pub returns : goal.returns
returns c = record { literals = literals_said; constants = constants_said }
