use Rattle.std.proofs.Common.{◌≡◌}
use Rattle.clu_bindings.specs.Tables.{table_to}
use Rattle.clu_check_mod.specs.Notes.{denoted_at}
use Rattle.clu_check_mod.proofs.notes.denoted.Given as goal

abbrev pub invariant-loop-n : goal.invariant-loop-n
invariant-loop-n l = l.all.items ≡ table_to (denoted_at l.fn.values) l.n
