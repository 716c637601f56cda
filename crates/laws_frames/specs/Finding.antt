-- The arms that `find` of clu_handlers gives, as the table of an image has them.
use Rattle.std.specs.Prelude.{◌≡◌, ◌==◌, ℕ, List, [], map, slice_get, Option, Some}
use Rattle.std.specs.Str.{bytes_eq}
use Rattle.clu_wir.specs.declared.region.Arm.{Arm}
use Rattle.clu_handlers.specs.Seen.{seen}
use Rattle.clu_handlers.specs.declared.region.Region.{Region}
use Rattle.clu_flat_meaning.specs.Image.{FlatArm}
use Rattle.clu_flat_meaning.specs.Machine.{arm_at}
use Rattle.laws_frames.specs.Tables.{arm_word, table_of}

-- the word of a name is that of an arm just if the arm has the name, and 0 is that of arms without one
pub record WordsTell (word : List ℕ → ℕ) (rs : List Region) (v : ℕ) (name : List ℕ) : Type 0 where
  pub same : (n k : ℕ) (r : Region) (a : Arm) → slice_get rs n ≡ Some r → slice_get r.arms.items k ≡ Some a → (arm_word word a.name == v) ≡ bytes_eq a.name name
  pub others : (n k : ℕ) (r : Region) (a : Arm) → slice_get rs n ≡ Some r → slice_get r.arms.items k ≡ Some a → (arm_word word a.name == 0) ≡ bytes_eq a.name []

-- the arm that the search in an image takes at a place
abbrev pub searched : (List ℕ → ℕ) → List Region → ℕ → ℕ → Option FlatArm
searched word rs pc v = arm_at (table_of word (map seen rs)) pc v
