use Rattle.std.proofs.Common.{◌≡◌, drop}
use Rattle.clu_frames.specs.Flattening.{made, moves_onto}
use Rattle.clu_frames.proofs.steps.Steps.push_moves.Given as goal

-- the slots that are left add the rest
abbrev pub invariant-loop-slot : goal.invariant-loop-slot
invariant-loop-slot l = moves_onto (drop l.slot-index l.slots) l.from (made l.self) ≡ moves_onto l.fn.slots l.fn.from (made l.fn.self)
