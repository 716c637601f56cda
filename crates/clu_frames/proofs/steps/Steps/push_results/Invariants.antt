use Rattle.std.proofs.Common.{◌≡◌, drop}
use Rattle.clu_frames.specs.Flattening.{made, results_onto}
use Rattle.clu_frames.proofs.steps.Steps.push_results.Given as goal

-- the slots that are left add the rest
abbrev pub invariant-loop-slot : goal.invariant-loop-slot
invariant-loop-slot l = results_onto l.number (drop l.slot-index l.slots) (made l.self) ≡ results_onto 0 l.fn.slots (made l.fn.self)
