use Rattle.std.proofs.Common.{◌≡◌, drop, map}
use Rattle.clu_wir.specs.Plain.{expr_of}
use Rattle.clu_frames.specs.Flattening.{made, sets_onto}
use Rattle.clu_frames.proofs.steps.Steps.set_row.Given as goal

-- the values that are left add the rest
abbrev pub invariant-loop-value : goal.invariant-loop-value
invariant-loop-value l = sets_onto l.to (map expr_of (drop l.value-index l.values)) (made l.self) ≡ sets_onto l.fn.to (map expr_of l.fn.values) (made l.fn.self)
