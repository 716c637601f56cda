use Rattle.std.proofs.Common.{◌≡◌, drop}
use Rattle.clu_frames.specs.Within.{are_within}
use Rattle.clu_frames.proofs.within.are_within.Given as goal

-- the steps that are left decide
abbrev pub invariant-loop-step : goal.invariant-loop-step
invariant-loop-step l = are_within l.frame l.steps ≡ are_within l.frame (drop l.step-index l.steps)
