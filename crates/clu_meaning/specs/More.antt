-- What more turns come to. The result of a computation that began with more turns is the same where that with fewer has
-- ended; where that is out of turns, its output and its meters have only grown since.
use Rattle.std.specs.Prelude.{◌≡◌, ℕ, ◌+◌, ◌≤◌, List, ◌++◌}
use Rattle.clu_meaning.specs.State.{State}
use Rattle.clu_meaning.specs.Computations.{Result, normal, ended, out_of_turns}

-- the output goes on from the earlier one, and no meter has fallen
pub record Later (earlier later : State) : Type 0 where
  pub more : List ℕ
  pub output : later.world.output ≡ earlier.world.output ++ more
  pub words : earlier.world.words ≤ later.world.words
  pub work : earlier.world.work ≤ later.world.work
  pub most : earlier.stack.most ≤ later.stack.most

abbrev pub state_of : {A : Type 0} → Result A → State
state_of (normal a turns st) = st
state_of (ended e turns st) = st
state_of (out_of_turns st) = st

-- the turns that are left
abbrev pub turns_of : {A : Type 0} → Result A → ℕ
turns_of (normal a turns st) = turns
turns_of (ended e turns st) = turns
turns_of (out_of_turns st) = 0

-- the second result is what the first one comes to with k turns more
abbrev pub GoesOn : {A : Type 0} → ℕ → Result A → Result A → Type 0
GoesOn k (normal a turns st) more = more ≡ normal a (turns + k) st
GoesOn k (ended e turns st) more = more ≡ ended e (turns + k) st
GoesOn k (out_of_turns st) more = Later st (state_of more)
