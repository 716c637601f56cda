-- What literals denote, by the codes of their bytes: 34 is ", 92 is a backslash.
use Rattle.std.specs.Prelude.{ℕ, suc, zero, ◌+◌, ◌-◌, ◌*◌, ◌&&◌, ◌==◌, nat_le, nat_lt, Bool, false, if◌then◌else◌, List, [], ◌∷◌, Option, Some, None}
use Rattle.std.specs.Char.{to_ascii_lowercase}

-- 0 to 7
abbrev pub is_octal : ℕ → Bool
is_octal b = nat_le 48 b && nat_le b 55

-- n is the new line, t the tab, p the new page, b the back space, r the carriage return, v the vertical
-- tab, in either case; a backslash and the marks denote themselves
abbrev pub letter_code : ℕ → ℕ
letter_code letter = code (to_ascii_lowercase letter)
  where
    code : ℕ → ℕ
    code lower =
        if lower == 110 then 10 else
        if lower == 116 then 9 else
        if lower == 112 then 12 else
        if lower == 98 then 8 else
        if lower == 114 then 13 else
        if lower == 118 then 11 else
        letter

-- the number that three octal digits write
abbrev pub octal_code : ℕ → ℕ → ℕ → ℕ
octal_code a b c = 64 * (a - 48) + 8 * (b - 48) + (c - 48)

-- three octal digits stand at the front
abbrev pub starts_with_code : List ℕ → Bool
starts_with_code (a ∷ b ∷ c ∷ bs) = is_octal a && is_octal b && is_octal c
starts_with_code _ = false

abbrev pub digits_code : List ℕ → ℕ
digits_code (a ∷ b ∷ c ∷ bs) = octal_code a b c
digits_code _ = 0

abbrev pub front_code : List ℕ → ℕ
front_code [] = 0
front_code (letter ∷ bs) = letter_code letter

-- the code of the character whose escape stands after a backslash
abbrev pub escape_code : List ℕ → ℕ
escape_code bs = if starts_with_code bs then digits_code bs else front_code bs

-- how many bytes belong to that escape
abbrev pub escape_len : List ℕ → ℕ
escape_len bs = if starts_with_code bs then 3 else 1

-- a code up to octal 377 is a byte
abbrev pub as_byte : ℕ → Option ℕ
as_byte code = if nat_lt code 256 then Some code else None

-- the byte and those after it, if all are bytes
unfoldable pub with_byte : Option ℕ → Option (List ℕ) → Option (List ℕ)
with_byte None rest = None
with_byte (Some b) None = None
with_byte (Some b) (Some bs) = Some (b ∷ bs)

-- the bytes that the text of a string literal denotes up to its closing mark, where the first `skip`
-- bytes belong to an escape; none where an octal code is no byte
abbrev pub text_denoted : ℕ → List ℕ → Option (List ℕ)
text_denoted skip [] = Some []
text_denoted (suc skip) (b ∷ bs) = text_denoted skip bs
text_denoted zero (b ∷ bs) =
    if b == 34 then Some [] else
    if b == 92 then with_byte (as_byte (escape_code bs)) (text_denoted (escape_len bs) bs) else
    with_byte (Some b) (text_denoted 0 bs)

-- the bytes that a string literal denotes; its spelling begins with its opening mark
abbrev pub string_denoted : List ℕ → Option (List ℕ)
string_denoted [] = Some []
string_denoted (mark ∷ text) = text_denoted 0 text

-- the byte that a character literal denotes
abbrev pub char_denoted : List ℕ → Option ℕ
char_denoted (mark ∷ b ∷ bs) = if b == 92 then as_byte (escape_code bs) else Some b
char_denoted _ = None
