-- What a result has written, and that a list begins another.
use Rattle.std.specs.Prelude.{◌≡◌, ℕ, ◌+◌, List, ◌++◌}
use Rattle.clu_word_meaning.specs.Words.{Result, ended, normal, out_of_turns}

pub record Front (a b : List ℕ) : Type 0 where
  pub more : List ℕ
  pub parts : b ≡ a ++ more

abbrev pub output_of : {A : Type 0} → Result A → List ℕ
output_of (normal a turns st) = st.world.output
output_of (ended e turns st) = st.world.output
output_of (out_of_turns st) = st.world.output

-- The second result is the first one, with so many turns more left; where the first is out of turns, the second goes on from
-- what is written there.
abbrev pub Lasts : {A : Type 0} → ℕ → Result A → Result A → Type 0
Lasts k (normal a turns st) r = r ≡ normal a (turns + k) st
Lasts k (ended e turns st) r = r ≡ ended e (turns + k) st
Lasts k (out_of_turns st) r = Front st.world.output (output_of r)
