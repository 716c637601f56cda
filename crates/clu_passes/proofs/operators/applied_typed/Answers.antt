use Rattle.clu_passes.proofs.AppliedTyped.{applied_typed}
use Rattle.clu_passes.proofs.operators.applied_typed.Goals as goal

pub returns : goal.returns
returns c = applied_typed
