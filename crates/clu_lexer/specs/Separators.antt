-- What stands between tokens.
use Rattle.std.specs.Prelude.{ℕ, ◌+◌, Bool, true, false, not, if◌then◌else◌, ◌||◌, ◌&&◌, ◌==◌, nat_le, List, [], ◌∷◌}

-- a blank, or a byte from 9 to 13
abbrev pub is_separator : ℕ → Bool
is_separator b = b == 32 || (nat_le 9 b && nat_le b 13)

-- how many bytes of separators and comments stand at the front; a comment goes from % (37) to byte 10
abbrev pub gap_len : (in_comment : Bool) → List ℕ → ℕ
gap_len in_comment [] = 0
gap_len true (b ∷ bs) = 1 + gap_len (not (b == 10)) bs
gap_len false (b ∷ bs) =
    if b == 37 then 1 + gap_len true bs else
    if is_separator b then 1 + gap_len false bs else
    0
