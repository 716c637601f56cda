use Rattle.std.proofs.Common.{◌≡◌, ◌++◌, length}
use Rattle.clu_bindings.specs.Parameters.{of_parms}
use Rattle.clu_bindings.proofs.parameters.push_parms.Given as goal

abbrev pub invariant-loop-parms : goal.invariant-loop-parms
invariant-loop-parms l = l.all.items ++ of_parms l.tree l.parms ≡ l.initial.all.items ++ of_parms l.tree l.initial.parms

abbrev pub decreases-loop-parms : goal.decreases-loop-parms
decreases-loop-parms l = length l.parms
