use Rattle.std.proofs.Common.{◌≡◌, drop}
use Rattle.clu_circles.specs.Search.{marked}
use Rattle.clu_circles.proofs.states.mark.Given as goal

abbrev pub invariant-loop-one : goal.invariant-loop-one
invariant-loop-one l = marked l.states (drop l.one-index l.begun) ≡ marked l.initial.states l.begun
