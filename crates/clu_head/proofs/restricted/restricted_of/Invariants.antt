use Rattle.std.proofs.Common.{◌≡◌}
use Rattle.clu_head.specs.Restricting.{restricted_to}
use Rattle.clu_head.proofs.restricted.restricted_of.Given as goal

abbrev pub invariant-loop-n : goal.invariant-loop-n
invariant-loop-n l = l.all.items ≡ restricted_to l.fn.syntax l.fn.names.declared.items l.fn.sets l.fn.numbers l.n
