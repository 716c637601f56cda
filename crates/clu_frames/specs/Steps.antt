-- How many words of code the steps of flat code take.
use Rattle.std.specs.Prelude.{ℕ, List, fold}
use Rattle.clu_wir.specs.Costs.{cost_words}
use Rattle.clu_wir.specs.Rooms.{plus, times, words_of}
use Rattle.clu_wir.specs.declared.cost.Cost.{Cost}
use Rattle.clu_wir.specs.declared.cost.Cost.TheVariants as cost
use Rattle.clu_wir.specs.declared.expression.WExpr.{WExpr}
use Rattle.clu_frames.specs.declared.flat.Flat.{Flat}
use Rattle.clu_frames.specs.declared.flat.Flat.TheVariants as flat

-- an expression, and a step over its word
abbrev pub with_step : WExpr → Cost → ℕ
with_step value c = plus (words_of value) (cost_words c)

-- two expressions, and a step over their words
abbrev pub with_both : WExpr → WExpr → Cost → ℕ
with_both first second c = plus (plus (words_of first) (words_of second)) (cost_words c)

abbrev pub enter_words : ℕ → ℕ
enter_words arguments = plus (cost_words cost.Enter) (times (cost_words cost.Argument) arguments)

-- at most so many, in a frame of any size
abbrev pub step_words : Flat → ℕ
step_words (flat.Set to value) = with_step value cost.Save
step_words (flat.Put address bytes value) = with_both address value cost.Save
step_words (flat.Label label) = 0
step_words (flat.Jump label) = cost_words cost.Jump
step_words (flat.Branch condition sense label) = with_step condition cost.Branch
step_words (flat.Enter arguments) = enter_words arguments
step_words (flat.Bind number value to) = with_both number value cost.Bind
step_words (flat.Invoke routine slot) = with_step routine cost.Invoke
step_words (flat.Yield slot count) = cost_words cost.Yield
step_words (flat.Resume slot) = cost_words cost.Resume
step_words (flat.Take to) = cost_words cost.Take
step_words (flat.Result to number) = cost_words cost.Result
step_words (flat.Cut mark) = cost_words cost.Cut
step_words (flat.Leave slot count) = cost_words cost.Leave
step_words (flat.Raise slot) = cost_words cost.Raise
step_words (flat.Signal slot) = cost_words cost.Signal
step_words flat.Pass = cost_words cost.Pass
step_words (flat.Prim number slot) = cost_words cost.Primitive

abbrev pub code_words : List Flat → ℕ
code_words steps = fold (λ n step. plus n (step_words step)) 0 steps
