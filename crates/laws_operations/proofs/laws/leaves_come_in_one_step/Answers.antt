use Rattle.laws_operations.proofs.Leaves.{one_step}
use Rattle.laws_operations.proofs.laws.leaves_come_in_one_step.Goals as goal

pub returns : goal.returns
returns c = one_step
