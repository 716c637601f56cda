-- Lists after their counts, read one item after the other.
use Rattle.std.specs.Prelude.{ℕ, zero, suc, List, [], ◌∷◌, ◌++◌, Ok}
use Rattle.clu_specs.specs.Reading.{Read, ◌>>=◌}

-- so many items more; `item` reads one after those that were made
unfoldable pub counted : {X : Type 0} → (List X → List ℕ → Read X) → ℕ → List X → List ℕ → Read (List X)
counted item zero made bytes = Ok (made, bytes)
counted item (suc n) made bytes = item made bytes >>= λ x. counted item n (made ++ x.0 ∷ []) x.1
