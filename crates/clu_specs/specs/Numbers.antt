-- Decimal numbers without leading zeros; 48 to 57 are the digits.
use Rattle.std.specs.Prelude.{ℕ, zero, suc, ◌+◌, ◌*◌, ◌-◌, ◌/◌, Bool, ◌&&◌, ◌==◌, nat_le, not, if◌then◌else◌, List, [], ◌∷◌, length, Result, Ok, Err}
use Rattle.std.specs.Char.{is_ascii_digit}

-- the number that the digits at the front make after `read`; refused at the digit that exceeds the limit
abbrev pub digits_from : ℕ → ℕ → List ℕ → Result (ℕ × List ℕ) ℕ
digits_from limit read [] = Ok (read, [])
digits_from limit read (b ∷ bytes) =
    if not (is_ascii_digit b) then Ok (read, b ∷ bytes) else
    if nat_le (10 * read + (b - 48)) limit then digits_from limit (10 * read + (b - 48)) bytes else
    Err (suc (length bytes))

-- the number from 1 to the limit at the front
unfoldable pub digits_at : ℕ → List ℕ → Result (ℕ × List ℕ) ℕ
digits_at limit [] = Err 0
digits_at limit (b ∷ bytes) = if nat_le 49 b && nat_le b 57 then digits_from limit 0 (b ∷ bytes) else Err (suc (length bytes))

-- the first digits of a number, so many fewer that it isn't above the first
abbrev pub shorten : ℕ → ℕ → ℕ → ℕ
shorten zero first number = number
shorten (suc digits) first number = if nat_le number first then number else shorten digits first (number / 10)

-- the digits of a number begin with those of the first, which isn't 0
abbrev pub begins_decimal : ℕ → ℕ → Bool
begins_decimal first number = not (first == 0) && shorten 20 first number == first
