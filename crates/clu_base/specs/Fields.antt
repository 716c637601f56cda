-- Little-endian fields of binary formats.
use Rattle.std.specs.Prelude.{ℕ, ◌+◌, nat_le, if◌then◌else◌, List, length, drop, Option, Some, None}
use Rattle.byteorder.specs.Endian.{little_number}

-- the number in the n bytes that follow place at, where so many do
abbrev pub field_at : ℕ → List ℕ → ℕ → Option ℕ
field_at n bytes at = if nat_le (at + n) (length bytes) then Some (little_number n (drop at bytes)) else None
