-- The fields of binary formats: how each is read from the left, and its bytes.
use Rattle.std.specs.Prelude.{ℕ, ℤ, min, Bool, true, false, not, ◌&&◌, nat_lt, nat_le, nat_eq, if◌then◌else◌, List, [], ◌∷◌, ◌++◌, length, take, drop, codes, Result, Ok, Err}
use Rattle.std.specs.List.{list_all, starts_with}
use Rattle.std.specs.Int.{w64, cast_signed, cast_unsigned}
use Rattle.std.specs.Str.{bytes_eq}
use Rattle.std.specs.declared.cmp.Ordering.{Ordering}
use Rattle.std.specs.declared.cmp.Ordering.TheVariants.{Less, Equal, Greater}
use Rattle.byteorder.specs.Endian.{little_number, little_bytes}
use Rattle.clu_base.specs.declared.errors.FormatError.{FormatError}
use Rattle.clu_base.specs.declared.errors.FormatError.TheVariants as error
use Rattle.clu_types.specs.Specs.{name_order}
use Rattle.clu_specs.specs.Reading.{Read, ◌>>=◌}
use Rattle.clu_specs.specs.Names.{goes_on_name, is_named, is_reserved}

-- the error of a field, so many bytes before the end, whose content is refused
abbrev pub field_error : ℕ → FormatError → FormatError
field_error left error.Memory = error.Memory
field_error left (error.Bad inside) = error.Bad left

-- what follows these bytes
abbrev pub mark_read : List ℕ → List ℕ → Result (List ℕ) ℕ
mark_read fixed bytes = if starts_with nat_eq bytes fixed then Ok (drop (length fixed) bytes) else Err (length bytes)

abbrev pub byte_read : List ℕ → Read ℕ
byte_read [] = Err 0
byte_read (b ∷ bytes) = Ok (b, bytes)

-- a number of so many bytes, the lowest first
abbrev pub number_read : ℕ → List ℕ → Read ℕ
number_read n bytes = if nat_lt (length bytes) n then Err (length bytes) else Ok (little_number n (take n bytes), drop n bytes)

-- a number of eight bytes, by two's complement
abbrev pub signed_read : List ℕ → Read ℤ
signed_read bytes = if nat_lt (length bytes) 8 then Err (length bytes) else Ok (cast_signed w64 (little_number 8 (take 8 bytes)), drop 8 bytes)

abbrev pub signed_bytes : ℤ → List ℕ
signed_bytes n = little_bytes 8 (cast_unsigned w64 n)

-- so many bytes; where fewer are there the field that they belong to is refused at its start
abbrev pub content_read : List ℕ → ℕ → List ℕ → Read (List ℕ)
content_read field count bytes = if nat_lt (length bytes) count then Err (length field) else Ok (take count bytes, drop count bytes)

-- bytes after their number, which has n bytes
abbrev pub text_read : ℕ → List ℕ → Read (List ℕ)
text_read n bytes = number_read n bytes >>= λ x. content_read bytes x.0 x.1

-- the same written; the number of a text that is too long is the greatest
abbrev pub text16_bytes : List ℕ → List ℕ
text16_bytes text = little_bytes 2 (min (length text) 0xffff) ++ text

abbrev pub text64_bytes : List ℕ → List ℕ
text64_bytes text = little_bytes 8 (length text) ++ text

-- how many items a list has; of a list that is too long the greatest number
abbrev pub count_bytes : ℕ → List ℕ
count_bytes count = little_bytes 4 (min count 0xffff_ffff)

-- a name: small letters, digits and _, not beginning with a digit, of 1 to 200 bytes, and no reserved word
abbrev pub is_name : List ℕ → Bool
is_name bytes = is_named bytes && nat_le (length bytes) 200 && list_all goes_on_name bytes && not (is_reserved bytes)

abbrev pub is_module_name : List ℕ → Bool
is_module_name bytes = is_name bytes && not (bytes_eq bytes (codes "stream"))

abbrev pub is_less : Ordering → Bool
is_less Less = true
is_less Equal = false
is_less Greater = false

-- by bytes, a proper front first
abbrev pub is_after : List ℕ → List ℕ → Bool
is_after previous bytes = is_less (name_order previous bytes)

-- the name of a module after another one
abbrev pub module_read : List ℕ → List ℕ → Read (List ℕ)
module_read previous bytes = text_read 2 bytes >>= λ x. if is_module_name x.0 && is_after previous x.0 then Ok x else Err (length bytes)
