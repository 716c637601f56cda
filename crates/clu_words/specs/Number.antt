-- Numbers in the words.
use Rattle.std.specs.Prelude.{◌&&◌, ◌*◌, ◌+◌, ◌-◌, ℕ, Bool, false, List, [], ◌∷◌, Option, None, Some, if◌then◌else◌, nat_le}
use Rattle.std.specs.List.{list_all}
use Rattle.std.specs.Char.{is_ascii_digit}

-- one or more digits
abbrev pub is_numeral : List ℕ → Bool
is_numeral [] = false
is_numeral (digit ∷ digits) = list_all is_ascii_digit (digit ∷ digits)

-- the number that digits after those of n write
abbrev pub number_after : ℕ → List ℕ → ℕ
number_after n [] = n
number_after n (digit ∷ digits) = number_after (10 * n + (digit - 48)) digits

-- the number that the text writes, where it is a numeral and the number within the bounds
abbrev pub number_within : ℕ → ℕ → List ℕ → Option ℕ
number_within least most text =
    if is_numeral text && (nat_le least (number_after 0 text) && nat_le (number_after 0 text) most)
    then Some (number_after 0 text) else None
