use Rattle.std.proofs.Common.{◌≡◌, length}
use Rattle.clu_head.specs.Sets.{AreOne}
use Rattle.clu_head.proofs.sets.spans_of.Given as goal

abbrev pub invariant-loop-at : goal.invariant-loop-at
invariant-loop-at l = record {
  size : length l.spans.items ≡ l.at;
  one : AreOne l.spans.items l.at;
}
