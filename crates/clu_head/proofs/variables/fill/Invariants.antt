use Rattle.std.proofs.Common.{◌≡◌, length}
use Rattle.clu_head.specs.Unchanged.{AreUnchanged}
use Rattle.clu_head.proofs.variables.fill.Given as goal

abbrev pub invariant-loop-at : goal.invariant-loop-at
invariant-loop-at l = record {
  unchanged : AreUnchanged 0 l.actuals.items;
  size : length l.actuals.items ≡ l.at;
}
