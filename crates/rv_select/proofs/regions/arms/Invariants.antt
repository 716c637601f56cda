use Rattle.std.proofs.Common.{◌≡◌, map, take}
use Rattle.rv_select.specs.Mapped.{mapped_arm}
use Rattle.rv_select.proofs.regions.arms.Given as goal

abbrev pub invariant-loop-arm : goal.invariant-loop-arm
invariant-loop-arm l = l.mapped.items ≡ map (mapped_arm l.starts) (take l.arm-index l.arms)
