use Rattle.std.proofs.Common.{refl}
use Rattle.rv_machine.proofs.intake.Intake.drop_first.Goals as goal
use Rattle.rv_machine.proofs.Pieces.{drop-piece}

pub returns-then-self : goal.returns-then-self
returns-then-self c = rw (← c.self.view_is, drop-piece _ _ _ c.if-self.true) refl
