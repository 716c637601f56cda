-- Nodes that are refused, by a bit for each node, and how many stand before each number.
use Rattle.std.specs.Prelude.{ℕ, zero, suc, ◌+◌, Bool, false, List, [], ◌∷◌, ◌++◌, slice_get, nat_lt, if◌then◌else◌, Option, Some, None}
use Rattle.clu_syntax.specs.declared.round.Round.{Round}

abbrev pub is_set : Option Bool → Bool
is_set (Some bit) = bit
is_set None = false

-- how many of the first n bits are set
unfoldable pub count_before : List Bool → ℕ → ℕ
count_before bits zero = 0
count_before bits (suc n) = if is_set (slice_get bits n) then count_before bits n + 1 else count_before bits n

-- that of each number up to n
unfoldable pub counts_to : List Bool → ℕ → List ℕ
counts_to bits zero = count_before bits 0 ∷ []
counts_to bits (suc n) = counts_to bits n ++ count_before bits (suc n) ∷ []

abbrev pub number_in : Option ℕ → ℕ
number_in (Some count) = count
number_in None = 0

-- more are set before the number after the node than before the first one below it
abbrev pub grows_in : List ℕ → Option Round → ℕ → Bool
grows_in counts (Some round) n = nat_lt (number_in (slice_get counts round.first)) (number_in (slice_get counts (n + 1)))
grows_in counts None n = false
