use Rattle.std.proofs.Common.{◌≡◌, length}
use Rattle.clu_bindings.specs.Parameters.{of_unit}
use Rattle.clu_bindings.specs.Tables.{table_to, joined_to}
use Rattle.clu_bindings.proofs.parameters.push_units.Given as goal

abbrev pub invariant-loop-n : goal.invariant-loop-n
invariant-loop-n l = record {
  starts : l.starts.items ≡ table_to (λ n. length (joined_to (of_unit l.fn.syntax) n)) l.n;
  all : l.all.items ≡ joined_to (of_unit l.fn.syntax) l.n;
}
