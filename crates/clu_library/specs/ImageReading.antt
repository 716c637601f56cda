-- The image of a file of either version.
use Rattle.std.specs.Prelude.{ℕ, zero, suc, ◌*◌, ◌+◌, List, [], ◌∷◌, take, drop, Option, Some, None, unwrap_or, Result, Ok, Err}
use Rattle.byteorder.specs.Endian.{little_number}
use Rattle.clu_image.specs.Faults.{fault_of, entry_of, words_of, fixed_size_of, code_at}
use Rattle.rv_isa.specs.Image.{Contents, contents}

-- so many numbers of four bytes each
abbrev pub numbers_in : ℕ → List ℕ → List ℕ
numbers_in zero bytes = []
numbers_in (suc n) bytes = little_number 4 (take 4 bytes) ∷ numbers_in n (drop 4 bytes)

-- by its entry, how many code words and bytes of the fixed part it has, and the bytes from its code on
abbrev pub image_of : ℕ → ℕ → ℕ → List ℕ → Contents
image_of entry words fixed bytes = contents entry (numbers_in words bytes) (take fixed (drop (4 * words) bytes)) (drop (4 * words + fixed) bytes)

abbrev pub image_by : Option ℕ → List ℕ → Result Contents ℕ
image_by None bytes = Ok (image_of (unwrap_or (entry_of bytes) 0) (unwrap_or (words_of bytes) 0) (unwrap_or (fixed_size_of bytes) 0) (drop (code_at bytes) bytes))
image_by (Some fault) bytes = Err fault

unfoldable pub image_read : List ℕ → Result Contents ℕ
image_read bytes = image_by (fault_of bytes) bytes
