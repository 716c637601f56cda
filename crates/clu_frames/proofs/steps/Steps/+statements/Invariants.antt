use Rattle.std.proofs.Common.{◌≡◌, drop, map}
use Rattle.std.specs.Prelude.{IsTrue}
use Rattle.clu_wir.specs.Formed.{all_formed, arm_formed_of, arms_formed, formed_of}
use Rattle.clu_wir.specs.Plain.{arm_of, arms_of, body_of}
use Rattle.clu_frames.specs.Flattening.{all_onto, arms_onto, made, round_of}
use Rattle.clu_frames.specs.Standing.{standing_of}
use Rattle.clu_frames.proofs.steps.Steps.+statements.Given as goal

-- the statements that are left add the rest, and are well formed
abbrev pub invariant-list-loop-statement : goal.invariant-list-loop-statement
invariant-list-loop-statement l =
    (all_onto (body_of (drop l.statement-index l.statements)) (round_of l.round) (made l.self) ≡ all_onto (body_of l.fn.statements) (round_of l.round) (made l.fn.self))
    × IsTrue (all_formed (map formed_of (drop l.statement-index l.statements)) (standing_of l.round))

abbrev pub invariant-arms-loop-arm : goal.invariant-arms-loop-arm
invariant-arms-loop-arm l =
    (arms_onto (arms_of (map arm_of (drop l.arm-index l.arms))) l.label l.guard.end l.guard.region (round_of l.round) (made l.self)
    ≡ arms_onto (arms_of (map arm_of l.fn.arms)) l.guard.label l.guard.end l.guard.region (round_of l.round) (made l.fn.self))
    × IsTrue (arms_formed (map arm_formed_of (drop l.arm-index l.arms)) (standing_of l.round))
