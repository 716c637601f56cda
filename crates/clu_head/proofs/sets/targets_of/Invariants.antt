use Rattle.std.proofs.Common.{◌≡◌, map, take}
use Rattle.std.specs.List.{All}
use Rattle.clu_head.specs.Sets.{IsBelow, target_of}
use Rattle.clu_head.proofs.sets.targets_of.Given as goal

abbrev pub invariant-loop-one : goal.invariant-loop-one
invariant-loop-one l = record {
  below : All (IsBelow l.many) l.targets.items;
  exact : l.targets.items ≡ map (target_of l.many) (take l.one-index l.said);
}
