-- Classes of bytes, by their codes: 9 is a tab, 32 a blank, 34 is ", 39 is ', 92 is a backslash.
use Rattle.std.specs.Prelude.{ℕ, Bool, not, ◌&&◌, ◌||◌, ◌==◌, nat_le}
use Rattle.std.specs.Char.{is_ascii_alphabetic, is_ascii_digit, to_ascii_lowercase}

-- letters and `_`
abbrev pub begins_name : ℕ → Bool
begins_name b = is_ascii_alphabetic b || b == 95

abbrev pub is_digit : ℕ → Bool
is_digit b = is_ascii_digit b

abbrev pub goes_on_name : ℕ → Bool
goes_on_name b = begins_name b || is_digit b

abbrev pub is_octal : ℕ → Bool
is_octal b = nat_le 48 b && nat_le b 55

-- a character that stands for itself in a literal that `closing` ends
abbrev pub is_plain : ℕ → ℕ → Bool
is_plain closing b = ((b == 9 || (nat_le 32 b && not (b == 127))) && not (b == 92)) && not (b == closing)

-- n t p b r v in either case, and backslash ' "
abbrev pub is_escape_letter : ℕ → Bool
is_escape_letter b = is_simple_escape (to_ascii_lowercase b)
  where
    is_simple_escape : ℕ → Bool
    is_simple_escape c = (((((((c == 110 || c == 116) || c == 112) || c == 98) || c == 114) || c == 118) || c == 92) || c == 39) || c == 34

-- e and E
abbrev pub is_exponent_mark : ℕ → Bool
is_exponent_mark b = b == 101 || b == 69

abbrev pub is_sign : ℕ → Bool
is_sign b = b == 43 || b == 45
