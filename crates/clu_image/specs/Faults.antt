-- Where bytes that are no image file go wrong: at the first field that is missing, cut or out of its
-- range.

use Rattle.std.specs.Prelude.{◌≡◌, ℕ, ◌+◌, ◌*◌, ◌%◌, ◌==◌, ◌&&◌, ◌||◌, nat_lt, nat_le, if◌then◌else◌, Bool, true, false, List, [], ◌∷◌, ◌++◌, length, Option, Some, None, unwrap_or, codes, nat_eq}
use Rattle.std.specs.List.{starts_with}
use Rattle.std.specs.Option.{option_map_or}
use Rattle.clu_base.specs.Fields.{field_at}
use Rattle.clu_base.specs.declared.errors.FormatError.{FormatError}
use Rattle.clu_base.specs.declared.errors.FormatError.TheVariants.{Bad, Memory}
use Rattle.rv_isa.specs.Image.{max_words, max_bytes}

-- a version that can be read
abbrev pub is_version : ℕ → Bool
is_version n = n == 1 || n == 2

-- a size of the fixed part or the data, after parts of so many bytes
abbrev pub is_size : ℕ → ℕ → Bool
is_size before n = n % 8 == 0 && nat_le (before + n) max_bytes

-- the number at a place, where it is there, passes the test
abbrev pub passes : (ℕ → Bool) → Option ℕ → Bool
passes test number = option_map_or test number false

abbrev pub is_version_1 : List ℕ → Bool
is_version_1 bytes = passes (λ v. v == 1) (field_at 4 bytes 4)

abbrev pub entry_of : List ℕ → Option ℕ
entry_of bytes = field_at 4 bytes 8

abbrev pub words_of : List ℕ → Option ℕ
words_of bytes = field_at 4 bytes 12

-- version 1 has no fixed part
abbrev pub fixed_size_of : List ℕ → Option ℕ
fixed_size_of bytes = if is_version_1 bytes then Some 0 else field_at 4 bytes 16

abbrev pub area_size_at : List ℕ → ℕ
area_size_at bytes = if is_version_1 bytes then 16 else 20

abbrev pub area_size_of : List ℕ → Option ℕ
area_size_of bytes = field_at 4 bytes (area_size_at bytes)

-- where the code, the fixed part and the data start, and where the file ends

abbrev pub code_at : List ℕ → ℕ
code_at bytes = area_size_at bytes + 4

abbrev pub fixed_at : List ℕ → ℕ
fixed_at bytes = code_at bytes + 4 * unwrap_or (words_of bytes) 0

abbrev pub area_at : List ℕ → ℕ
area_at bytes = fixed_at bytes + unwrap_or (fixed_size_of bytes) 0

abbrev pub end_of : List ℕ → ℕ
end_of bytes = area_at bytes + unwrap_or (area_size_of bytes) 0

-- a field: where it starts, and whether it is whole and in its range
pub record Field : Type 0 where
  pub at : ℕ
  pub is_good : Bool

abbrev pub field : ℕ → Bool → Field
field at is_good = record { at = at; is_good = is_good }

-- the fields at the head of a file, in order
abbrev pub head_fields : List ℕ → List Field
head_fields bytes =
    field 0 (starts_with nat_eq bytes (codes "CLUI"))
    ∷ field 4 (passes is_version (field_at 4 bytes 4))
    ∷ field 8 (passes (λ entry. option_map_or (λ words. nat_lt entry words) (words_of bytes) true) (entry_of bytes))
    ∷ field 12 (passes (λ words. nat_le words max_words) (words_of bytes))
    ∷ field 16 (passes (is_size 0) (fixed_size_of bytes))
    ∷ field (area_size_at bytes) (passes (is_size (unwrap_or (fixed_size_of bytes) 0)) (area_size_of bytes))
    ∷ []

-- the code, the fixed part and the data; the last stands for bytes after the end
abbrev pub part_fields : List ℕ → List Field
part_fields bytes =
    field (code_at bytes) (nat_le (fixed_at bytes) (length bytes))
    ∷ field (fixed_at bytes) (nat_le (area_at bytes) (length bytes))
    ∷ field (area_at bytes) (nat_le (end_of bytes) (length bytes))
    ∷ field (end_of bytes) (nat_le (length bytes) (end_of bytes))
    ∷ []

-- where the first field that is not good starts
abbrev pub first_fault : List Field → Option ℕ
first_fault [] = None
first_fault (f ∷ fs) = if f.is_good then first_fault fs else Some f.at

abbrev pub fault_of : List ℕ → Option ℕ
fault_of bytes = first_fault (head_fields bytes ++ part_fields bytes)

-- the refusal of bytes with a fault
abbrev pub IsFault : Option ℕ → FormatError → Type 0
IsFault None e = ⊥
IsFault (Some at) e = e ≡ Bad at

-- a reader refuses bytes at their first fault, and bytes without one only when memory runs out
abbrev pub IsRefusal : Option ℕ → FormatError → Type 0
IsRefusal None e = e ≡ Memory
IsRefusal (Some at) e = e ≡ Bad at
