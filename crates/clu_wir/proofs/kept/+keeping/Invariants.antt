use Rattle.std.proofs.Common.{◌≡◌, drop, map}
use Rattle.clu_wir.specs.Kept.{all_keep, arms_keep}
use Rattle.clu_wir.specs.Plain.{arm_of, arms_of, body_of}
use Rattle.clu_wir.proofs.kept.+keeping.Given as goal

-- the statements that are left decide
abbrev pub invariant-list-loop-each : goal.invariant-list-loop-each
invariant-list-loop-each l = all_keep l.slots (body_of (drop l.each-index l.statements)) ≡ all_keep l.slots (body_of l.statements)

abbrev pub invariant-arms-loop-arm : goal.invariant-arms-loop-arm
invariant-arms-loop-arm l = arms_keep l.slots (arms_of (map arm_of (drop l.arm-index l.arms))) ≡ arms_keep l.slots (arms_of (map arm_of l.arms))
