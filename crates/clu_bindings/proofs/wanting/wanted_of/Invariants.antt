use Rattle.std.proofs.Common.{◌≡◌}
use Rattle.clu_bindings.specs.Tables.{table_to}
use Rattle.clu_bindings.specs.Wanting.{wanted_at}
use Rattle.clu_bindings.proofs.wanting.wanted_of.Given as goal

abbrev pub invariant-loop-n : goal.invariant-loop-n
invariant-loop-n l = l.all.items ≡ table_to (wanted_at l.fn.takers l.fn.tree l.fn.rounds) l.n
