use Rattle.std.proofs.Common.{◌≡◌, drop, fold, length}
use Rattle.clu_head.specs.Sets.{with_set}
use Rattle.clu_head.proofs.sets.find_sets.Given as goal

abbrev pub invariant-loop-place : goal.invariant-loop-place
invariant-loop-place l = record {
  exact : fold (with_set l.said) l.sets (drop l.place-index l.order) ≡ fold (with_set l.said) l.initial.sets l.order;
  size : length l.sets ≡ length l.initial.sets;
}
