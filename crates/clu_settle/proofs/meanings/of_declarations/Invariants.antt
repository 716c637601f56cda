use Rattle.std.proofs.Common.{◌≡◌}
use Rattle.clu_settle.specs.Meant.{declared_to}
use Rattle.clu_settle.proofs.meanings.of_declarations.Given as goal

abbrev pub invariant-loop-place : goal.invariant-loop-place
invariant-loop-place l = l.all.items ≡ declared_to l.fn.syntax l.fn.rounds l.fn.declared l.place
