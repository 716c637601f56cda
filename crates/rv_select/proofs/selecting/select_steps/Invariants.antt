use Rattle.std.proofs.Common.{◌≡◌, [], drop}
use Rattle.clu_frames.specs.Plain.{plain_code}
use Rattle.rv_select.specs.Finished.{all_onto, all_starts, starts_behind, steps_onto}
use Rattle.rv_select.specs.Written.{written}
use Rattle.rv_select.proofs.selecting.select_steps.Given as goal

-- the steps that are left add the rest
abbrev pub invariant-loop-step : goal.invariant-loop-step
invariant-loop-step l =
    (steps_onto l.frame (plain_code (drop l.step-index l.steps)) (written l.words) ≡ all_onto l.frame (plain_code l.steps))
    × (starts_behind l.frame l.starts.items (plain_code (drop l.step-index l.steps)) (written l.words) ≡ all_starts l.frame (plain_code l.steps))
