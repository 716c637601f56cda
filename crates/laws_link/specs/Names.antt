-- The string at an address.
use Rattle.std.specs.Prelude.{ℕ, ◌+◌, ◌==◌, if◌then◌else◌, List, [], ◌∷◌, Option, Some, None}
use Rattle.clu_link_meaning.specs.Plan.{Plan, fixed_start, string_size}

-- of those that lie from an address on
abbrev pub named_from : ℕ → List (List ℕ) → ℕ → Option (List ℕ)
named_from at [] w = None
named_from at (s ∷ ss) w = if at == w then Some s else named_from (at + string_size s) ss w

abbrev pub name_of : Plan → ℕ → Option (List ℕ)
name_of p w = named_from (fixed_start p) p.strings w
