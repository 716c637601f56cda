use Rattle.std.proofs.Common.{◌≡◌}
use Rattle.clu_bindings.specs.Tables.{table_to}
use Rattle.clu_bindings.specs.Reps.{best_to, reached_at}
use Rattle.clu_bindings.proofs.reps.reached_of.Given as goal

abbrev pub invariant-loop-n : goal.invariant-loop-n
invariant-loop-n l = record {
  best : l.best ≡ best_to l.fn.declared l.fn.begun l.n;
  reps : l.reps.items ≡ table_to (reached_at l.fn.declared l.fn.begun) l.n;
}
