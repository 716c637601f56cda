use Rattle.std.proofs.Common.{◌≡◌}
use Rattle.clu_bindings.specs.Tables.{table_to}
use Rattle.clu_check_mod.specs.Notes.{constant_at}
use Rattle.clu_check_mod.proofs.notes.named_constants.Given as goal

abbrev pub invariant-loop-n : goal.invariant-loop-n
invariant-loop-n l = l.all.items ≡ table_to (constant_at l.fn.tree l.fn.values) l.n
