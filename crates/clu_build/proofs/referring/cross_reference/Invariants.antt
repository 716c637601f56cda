use Rattle.std.proofs.Common.{◌≡◌}
use Rattle.clu_build.specs.References.{lines_to}
use Rattle.clu_build.proofs.referring.cross_reference.Given as goal

abbrev pub invariant-loop-number : goal.invariant-loop-number
invariant-loop-number l = l.text.items ≡ lines_to l.library l.number
