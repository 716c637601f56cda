use Rattle.std.proofs.Common.{refl}
use Rattle.rv_machine.proofs.intake.Intake.fill.Goals as goal

pub returns-then-self-clause-same : goal.returns-then-self-clause-same
returns-then-self-clause-same g c = λ more. (more, refl)
