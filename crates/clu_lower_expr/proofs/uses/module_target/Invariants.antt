use Rattle.std.proofs.Common.{◌≡◌, take}
use Rattle.clu_lower_expr.proofs.uses.module_target.Given as goal

abbrev pub invariant-loop-actual : goal.invariant-loop-actual
invariant-loop-actual l = l.copied.items ≡ take l.actual-index l.actuals
