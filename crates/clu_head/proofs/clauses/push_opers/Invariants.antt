use Rattle.std.proofs.Common.{◌≡◌, ◌++◌, length}
use Rattle.clu_head.specs.Asking.{asked_by_opers}
use Rattle.clu_head.proofs.clauses.push_opers.Given as goal

abbrev pub invariant-loop-opers : goal.invariant-loop-opers
invariant-loop-opers l = l.all.items ++ asked_by_opers l.parameter l.set l.opers ≡ l.initial.all.items ++ asked_by_opers l.parameter l.set l.initial.opers

abbrev pub decreases-loop-opers : goal.decreases-loop-opers
decreases-loop-opers l = length l.opers
