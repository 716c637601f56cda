use Rattle.std.proofs.Common.{◌≡◌, map, take}
use Rattle.clu_circles.specs.Search.{is_circular}
use Rattle.clu_circles.proofs.circles.circular_of.Given as goal

abbrev pub invariant-loop-state : goal.invariant-loop-state
invariant-loop-state l = l.circular.items ≡ map is_circular (take l.state-index l.fn.states)
