use Rattle.std.proofs.Common.{◌≡◌, ◌<◌, ℕ, [], Some}
use Rattle.std.specs.Prelude.{slice_get}
use Rattle.clu_circles.specs.declared.states.State.TheVariants as state
use Rattle.clu_circles.specs.Search.{IsSearch, IsOrdered}
use Rattle.clu_circles.proofs.circles.visit_all.Given as goal

abbrev pub invariant-loop-number : goal.invariant-loop-number
invariant-loop-number l = record {
  none : l.begun.items ≡ [];
  search : IsSearch l.fn.targets l.fn.spans l.states [];
  ordered : IsOrdered l.fn.targets l.fn.spans l.states l.order.items;
  seen : (k : ℕ) → k < l.number → slice_get l.states k ≡ Some state.New → ⊥;
}
