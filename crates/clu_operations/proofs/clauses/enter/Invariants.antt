use Rattle.clu_operations.proofs.Entered.{EntersSome}
use Rattle.clu_operations.proofs.clauses.enter.Given as goal

abbrev pub invariant-loop-demand : goal.invariant-loop-demand
invariant-loop-demand l = EntersSome l.n l.demands l.fn.finding l.finding l.demand-index
