use Rattle.clu_circles.specs.Search.{IsSearch, IsOrdered, Fewer, left_in}
use Rattle.clu_circles.proofs.search.run.Given as goal

abbrev pub invariant-stack : goal.invariant-stack
invariant-stack l = record {
  search : IsSearch l.fn.targets l.fn.spans l.states l.begun.items;
  ordered : IsOrdered l.fn.targets l.fn.spans l.states l.order.items;
  fewer : Fewer l.initial.states l.states;
}

abbrev pub decreases-stack : goal.decreases-stack
decreases-stack l = left_in l.states
