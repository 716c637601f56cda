use Rattle.std.proofs.Common.{◌≡◌, drop, fold}
use Rattle.clu_wir.specs.Rooms.{plus}
use Rattle.clu_frames.specs.Steps.{code_words, step_words}
use Rattle.clu_frames.proofs.flat.FlatRoutine.words.Given as goal

-- the steps that are left decide
abbrev pub invariant-loop-step : goal.invariant-loop-step
invariant-loop-step l =
    fold (λ n step. plus n (step_words step)) l.words (drop l.step-index l.step-items) ≡ code_words l.self.code.items
