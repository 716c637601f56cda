use Rattle.std.proofs.Common.{◌≡◌, drop}
use Rattle.std.specs.List.{list_all}
use Rattle.clu_object.specs.Objects.{is_arm}
use Rattle.clu_object.proofs.testing.are_arms.Given as goal

-- those that are left decide
abbrev pub invariant-loop-arm : goal.invariant-loop-arm
invariant-loop-arm l = list_all (is_arm l.words) l.arms ≡ list_all (is_arm l.words) (drop l.arm-index l.arms)
