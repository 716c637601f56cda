-- Image files: which bytes are the file of an image. Each number takes four bytes, the lowest first.

use Rattle.std.specs.Prelude.{◌≡◌, ℕ, List, [], ◌++◌, length, codes, ◌⊎◌}
use Rattle.std.specs.List.{flat_map}
use Rattle.byteorder.specs.Endian.{little_bytes}
use Rattle.rv_isa.specs.Image.{Contents, IsImage}

abbrev pub number_bytes : ℕ → List ℕ
number_bytes n = little_bytes 4 n

-- the head of the file of an image, version 2
abbrev pub head_bytes : Contents → List ℕ
head_bytes i =
    codes "CLUI" ++ number_bytes 2 ++ number_bytes i.entry
    ++ number_bytes (length i.code)
    ++ number_bytes (length i.fixed)
    ++ number_bytes (length i.area)

-- the file of an image, version 2
abbrev pub image_bytes : Contents → List ℕ
image_bytes i = head_bytes i ++ flat_map number_bytes i.code ++ i.fixed ++ i.area

-- the file of an image without a fixed part, version 1
abbrev pub first_version_bytes : Contents → List ℕ
first_version_bytes i =
    codes "CLUI" ++ number_bytes 1 ++ number_bytes i.entry
    ++ number_bytes (length i.code) ++ number_bytes (length i.area)
    ++ flat_map number_bytes i.code ++ i.area

-- the bytes are a file of the image, of either version
pub record IsFileOf (bytes : List ℕ) (i : Contents) : Type 0 where
  pub image : IsImage i
  pub is : (bytes ≡ image_bytes i) ⊎ ((i.fixed ≡ []) × (bytes ≡ first_version_bytes i))
