use Rattle.std.proofs.Common.{◌≡◌, ◌++◌, take}
use Rattle.clu_types.specs.PartsOf.{actual_parts}
use Rattle.clu_types.proofs.components.push_actuals.Given as goal

abbrev pub invariant-loop-actual : goal.invariant-loop-actual
invariant-loop-actual l = l.parts.items ≡ l.initial.parts.items ++ actual_parts (take l.actual-index l.actuals)
