-- The texts of constants. A byte is two hexadecimal digits; 39 is ', 34 is ".
use Rattle.std.specs.Prelude.{ℕ, zero, suc, ℤ, pos, negsuc, length, Option, Some, None, Result, Ok, Err, ◌*◌, ◌==◌, ◌&&◌, nat_le, ◌+◌, ◌-◌, ◌/◌, ◌%◌, nat_lt, if◌then◌else◌, Bool, true, false, List, [], ◌∷◌, ◌++◌, codes}
use Rattle.std.specs.List.{flat_map}
use Rattle.std.specs.Fmt.{signed_decimal}
use Rattle.std.specs.Char.{is_ascii_digit}
use Rattle.std.specs.Str.{bytes_eq}
use Rattle.clu_specs.specs.Reading.{◌>>=◌, behind}
use Rattle.clu_specs.specs.Numbers.{digits_at}
use Rattle.clu_base.specs.declared.constants.Const.{Const}
use Rattle.clu_base.specs.declared.constants.Const.TheVariants as const

-- 0 to 9, and then a to f
abbrev pub hex_digit : ℕ → ℕ
hex_digit n = if nat_lt n 10 then 48 + n else 97 + (n - 10)

abbrev pub hex_byte : ℕ → List ℕ
hex_byte b = hex_digit (b / 16) ∷ hex_digit (b % 16) ∷ []

abbrev pub bool_text : Bool → List ℕ
bool_text true = codes "true"
bool_text false = codes "false"

abbrev pub constant_text : Const → List ℕ
constant_text const.Null = codes "nil"
constant_text (const.Bool b) = bool_text b
constant_text (const.Int n) = signed_decimal n
constant_text (const.Char b) = 39 ∷ hex_byte b
constant_text (const.Str bytes) = 34 ∷ (flat_map hex_byte bytes ++ 34 ∷ [])

-- the constant that a word is
unfoldable pub word_constant : List ℕ → Option Const
word_constant text =
    if bytes_eq text (codes "nil") then Some const.Null else
    if bytes_eq text (codes "true") then Some (const.Bool true) else
    if bytes_eq text (codes "false") then Some (const.Bool false) else
    None

-- a negative integer after its - (45)
unfoldable pub negative_at : List ℕ → Result (ℤ × List ℕ) ℕ
negative_at bytes = digits_at 9223372036854775808 bytes >>= λ x. Ok (negsuc (x.0 - 1), x.1)

unfoldable pub integer_at : List ℕ → Result (ℤ × List ℕ) ℕ
integer_at [] = Err 0
integer_at (b ∷ bytes) =
    if b == 48 then Ok (pos 0, bytes) else
    if b == 45 then negative_at bytes else
    digits_at 9223372036854775807 (b ∷ bytes) >>= λ x. Ok (pos x.0, x.1)

abbrev pub hex_value : ℕ → Option ℕ
hex_value b = if is_ascii_digit b then Some (b - 48) else if nat_le 97 b && nat_le b 102 then Some (b - 97 + 10) else None

abbrev pub digit_by : Option ℕ → ℕ → List ℕ → Result (ℕ × List ℕ) ℕ
digit_by None b bytes = Err (suc (length bytes))
digit_by (Some value) b bytes = Ok (value, bytes)

abbrev pub digit_at : List ℕ → Result (ℕ × List ℕ) ℕ
digit_at [] = Err 0
digit_at (b ∷ bytes) = digit_by (hex_value b) b bytes

-- the byte of two hexadecimal digits
unfoldable pub byte_at : List ℕ → Result (ℕ × List ℕ) ℕ
byte_at bytes = digit_at bytes >>= λ high. digit_at high.1 >>= λ low. Ok (16 * high.0 + low.0, low.1)

abbrev pub string_step : Option (List ℕ) → List ℕ → Result (List ℕ × List ℕ) ℕ → Result (List ℕ × List ℕ) ℕ
string_step None made more = more
string_step (Some after) made more = Ok (made, after)

-- the bytes up to a closing ", after those that were made; n bounds how many there are
unfoldable pub string_at : ℕ → List ℕ → List ℕ → Result (List ℕ × List ℕ) ℕ
string_at zero made bytes = Err (length bytes)
string_at (suc n) made bytes = string_step (behind 34 bytes) made (byte_at bytes >>= λ x. string_at n (made ++ x.0 ∷ []) x.1)
