use Rattle.clu_build.proofs.Numbering.{AreNumberedTo}
use Rattle.clu_build.proofs.specifications.add_each.Given as goal

abbrev pub invariant-loop-number : goal.invariant-loop-number
invariant-loop-number l = AreNumberedTo l.specs l.numbers.entries l.number
