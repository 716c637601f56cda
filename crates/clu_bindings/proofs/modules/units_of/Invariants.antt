use Rattle.std.proofs.Common.{◌≡◌}
use Rattle.clu_bindings.specs.Numbered.{modules_to, unit_at}
use Rattle.clu_bindings.specs.Tables.{table_to}
use Rattle.clu_bindings.proofs.modules.units_of.Given as goal

abbrev pub invariant-loop-n : goal.invariant-loop-n
invariant-loop-n l = record {
  many : l.many ≡ modules_to l.fn.tree l.n;
  units : l.units.items ≡ table_to (unit_at l.fn.tree) l.n;
}
