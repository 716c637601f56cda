use Rattle.clu_operations.proofs.Pushing.{ArePushed}
use Rattle.clu_operations.proofs.parts.push_own.Given as goal

abbrev pub invariant-loop-at : goal.invariant-loop-at
invariant-loop-at l = ArePushed l.fn.types l.fn.finding l.actuals l.demands l.shown l.types l.finding l.at
