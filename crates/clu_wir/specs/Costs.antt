-- How many words of code the steps take at most that statements become, and words that are known.
use Rattle.std.specs.Prelude.{ℕ, ◌+◌, ◌^◌, ◌%◌, nat_lt, if◌then◌else◌}
use Rattle.clu_wir.specs.declared.cost.Cost.{Cost}
use Rattle.clu_wir.specs.declared.cost.Cost.TheVariants as cost

abbrev pub cost_words : Cost → ℕ
cost_words cost.Save = 3
cost_words cost.Jump = 1
cost_words cost.Branch = 2
cost_words cost.Enter = 12
cost_words cost.Argument = 6
cost_words cost.Bind = 8
cost_words cost.Invoke = 7
cost_words cost.Yield = 18
cost_words cost.Resume = 8
cost_words cost.Take = 3
cost_words cost.Result = 6
cost_words cost.Cut = 3
cost_words cost.Leave = 8
cost_words cost.Raise = 9
cost_words cost.Signal = 13
cost_words cost.Pass = 7
cost_words cost.Primitive = 13

-- the words of a known word: one from -2048 to 2047, which an immediate holds, takes one
abbrev pub known_words : ℕ → ℕ
known_words word = if nat_lt ((word + 2048) % 2 ^ 64) 4096 then 1 else 6
