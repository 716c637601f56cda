use Rattle.std.proofs.Common.{◌≤◌, ◌-◌}
use Rattle.clu_circles.specs.Search.{AreStraight}
use Rattle.clu_circles.proofs.states.first_open.Given as goal

abbrev pub invariant-places : goal.invariant-places
invariant-places l = record {
  onward : l.fn.from ≤ l.place;
  straight : AreStraight l.fn.states l.fn.targets l.fn.from l.place;
}

abbrev pub decreases-places : goal.decreases-places
decreases-places l = l.fn.to - l.place
