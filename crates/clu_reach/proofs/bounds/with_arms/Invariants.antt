use Rattle.std.proofs.Common.{◌≡◌, drop, fold}
use Rattle.clu_reach.specs.Tables.{arm_step}
use Rattle.clu_reach.proofs.bounds.with_arms.Given as goal

-- the arms that are left decide
abbrev pub invariant-loop-arm : goal.invariant-loop-arm
invariant-loop-arm l = fold arm_step l.bytes (drop l.arm-index l.arms) ≡ fold arm_step l.before l.arms
