use Rattle.std.proofs.Common.{◌≡◌, take}
use Rattle.clu_core.proofs.op_ref.copy_actuals.Given as goal

abbrev pub invariant-loop-actual : goal.invariant-loop-actual
invariant-loop-actual l = l.copied.items ≡ take l.actual-index l.actuals
