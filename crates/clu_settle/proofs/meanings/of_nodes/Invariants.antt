use Rattle.std.proofs.Common.{◌≡◌}
use Rattle.clu_settle.specs.Meant.{meant_to}
use Rattle.clu_settle.proofs.meanings.of_nodes.Given as goal

abbrev pub invariant-loop-n : goal.invariant-loop-n
invariant-loop-n l = l.all.items ≡ meant_to l.fn.tree l.fn.names.declared.items l.fn.declared l.n
