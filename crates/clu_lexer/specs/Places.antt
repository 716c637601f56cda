-- Lines and columns, both from 1.
use Rattle.std.specs.Prelude.{ℕ, ◌+◌, ◌==◌, if◌then◌else◌, List, [], ◌∷◌, take}
use Rattle.clu_base.specs.declared.tokens.Place.{Place}

-- the place after one byte: byte 10 ends a line
abbrev pub step : Place → ℕ → Place
step p b = if b == 10 then record { line = p.line + 1; col = 1 } else record { line = p.line; col = p.col + 1 }

abbrev pub place_after : Place → List ℕ → Place
place_after p [] = p
place_after p (b ∷ bs) = place_after (step p b) bs

abbrev pub first_place : Place
first_place = record { line = 1; col = 1 }

-- the place of the byte at `at`, or of the end
abbrev pub place_at : List ℕ → ℕ → Place
place_at bytes at = place_after first_place (take at bytes)
