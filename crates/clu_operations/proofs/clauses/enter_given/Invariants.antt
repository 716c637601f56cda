use Rattle.clu_operations.proofs.Entered.{EntersBelow}
use Rattle.clu_operations.proofs.clauses.enter_given.Given as goal

abbrev pub invariant-loop-n : goal.invariant-loop-n
invariant-loop-n l = EntersBelow l.headed l.fn.finding l.finding l.n
