-- A list that is visited from its front while it grows: what is used at a place is added at its end, each once.
use Rattle.std.specs.Prelude.{ℕ, Bool, ◌&&◌, if◌then◌else◌, List, [], ◌∷◌, ◌++◌, fold, length, nat_le, nat_lt}
use Rattle.std.specs.List.{list_any}

module _ {X : Type 0} (eq : X → X → Bool) where
  -- the list with one more, unless it is there
  abbrev pub with_one : List X → X → List X
  with_one xs x = if list_any (eq x) xs then xs else xs ++ x ∷ []

  abbrev pub with_all : List X → List X → List X
  with_all xs ys = fold with_one xs ys

-- no more are visited once more than so many are listed
abbrev pub most : ℕ
most = 4096

abbrev pub goes_on : {X : Type 0} → List X → ℕ → Bool
goes_on us n = nat_le (length us) most && nat_lt n (length us)
