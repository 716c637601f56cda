use Rattle.clu_build.proofs.Adding.{AreAdding}
use Rattle.clu_build.proofs.specifications.enter_each.Given as goal

abbrev pub invariant-loop-at : goal.invariant-loop-at
invariant-loop-at l = AreAdding l.initial.library l.library l.specs l.numbers.entries l.at
