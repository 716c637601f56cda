use Rattle.std.proofs.Common.{◌≡◌, ◌++◌, length}
use Rattle.clu_head.specs.Outside.{times}
use Rattle.clu_head.proofs.parameter_kinds.push_times.Given as goal

abbrev pub invariant-loop-names : goal.invariant-loop-names
invariant-loop-names l = l.kinds.items ++ times l.kind l.names ≡ l.initial.kinds.items ++ times l.kind l.initial.names

abbrev pub decreases-loop-names : goal.decreases-loop-names
decreases-loop-names l = length l.names
