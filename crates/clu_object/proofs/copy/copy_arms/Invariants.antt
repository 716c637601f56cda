use Rattle.std.proofs.Common.{◌≡◌, take}
use Rattle.clu_object.proofs.copy.copy_arms.Given as goal

abbrev pub invariant-loop-arm : goal.invariant-loop-arm
invariant-loop-arm l = l.copied.items ≡ take l.arm-index l.arms
