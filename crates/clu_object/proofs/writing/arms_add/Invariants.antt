use Rattle.std.proofs.Common.{◌≡◌, ◌++◌, take}
use Rattle.std.specs.List.{flat_map}
use Rattle.clu_object.specs.ObjectFile.{arm_bytes}
use Rattle.clu_object.proofs.writing.arms_add.Given as goal

abbrev pub invariant-loop-arm : goal.invariant-loop-arm
invariant-loop-arm l = l.out.items ≡ l.initial.out.items ++ flat_map arm_bytes (take l.arm-index l.arms)
