use Rattle.std.proofs.Common.{◌≡◌, drop, map}
use Rattle.clu_wir.specs.Formed.{all_formed, arm_formed_of, arms_formed, formed_of, standing_of}
use Rattle.clu_wir.proofs.formed.+forms.Given as goal

-- the statements that are left decide
abbrev pub invariant-list-loop-each : goal.invariant-list-loop-each
invariant-list-loop-each l =
    all_formed (map formed_of (drop l.each-index l.statements)) (standing_of l.round) ≡ all_formed (map formed_of l.statements) (standing_of l.round)

abbrev pub invariant-arms-loop-arm : goal.invariant-arms-loop-arm
invariant-arms-loop-arm l =
    arms_formed (map arm_formed_of (drop l.arm-index l.arms)) (standing_of l.round) ≡ arms_formed (map arm_formed_of l.arms) (standing_of l.round)
