use Rattle.std.proofs.Common.{◌≡◌}
use Rattle.clu_bindings.specs.Tables.{table_to}
use Rattle.clu_check_mod.specs.Notes.{operation_at}
use Rattle.clu_check_mod.proofs.notes.operations.Given as goal

abbrev pub invariant-loop-n : goal.invariant-loop-n
invariant-loop-n l = l.all.items ≡ table_to (operation_at l.fn.types l.fn.facts) l.n
