use Rattle.std.proofs.Common.{◌≡◌, map, take}
use Rattle.clu_peep.specs.Moved.{moved_arm}
use Rattle.clu_peep.proofs.moving.moved_arms.Given as goal

abbrev pub invariant-loop-arm : goal.invariant-loop-arm
invariant-loop-arm l = l.moved.items ≡ map (moved_arm l.left) (take l.arm-index l.arms)
