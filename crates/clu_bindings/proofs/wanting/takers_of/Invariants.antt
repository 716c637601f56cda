use Rattle.std.proofs.Common.{◌≡◌}
use Rattle.clu_bindings.specs.Tables.{table_to}
use Rattle.clu_bindings.specs.Wanting.{is_taker}
use Rattle.clu_bindings.proofs.wanting.takers_of.Given as goal

abbrev pub invariant-loop-n : goal.invariant-loop-n
invariant-loop-n l = l.all.items ≡ table_to (is_taker l.fn.values l.fn.sets l.fn.tree l.fn.names l.fn.meanings) l.n
