use Rattle.clu_operations.proofs.Pushing.{AreKeptPushed}
use Rattle.clu_operations.proofs.parts.push_all_kept.Given as goal

abbrev pub invariant-loop-demand : goal.invariant-loop-demand
invariant-loop-demand l = AreKeptPushed l.from l.fn.types l.fn.finding l.actuals l.demands l.types l.finding l.demand-index
