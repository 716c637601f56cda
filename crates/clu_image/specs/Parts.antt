use Rattle.std.specs.Prelude.{◌≡◌, ℕ, ◌*◌, List, ◌++◌, length, drop, Some, None}
use Rattle.std.specs.List.{flat_map}
use Rattle.rv_isa.specs.Image.{Contents, IsImage}
use Rattle.clu_image.specs.declared.loading.Parts.{Parts}
use Rattle.clu_image.specs.ImageFile.{number_bytes}
use Rattle.clu_image.specs.Faults.{fault_of, entry_of, words_of, fixed_size_of, area_size_of, code_at}
use Rattle.clu_image.specs.Header.{AreBounded}

-- p has the parts of the bytes, which are good
pub record HasParts (bytes : List ℕ) (p : Parts) : Type 0 where
  pub good : fault_of bytes ≡ None
  pub words : ℕ
  pub words_is : words_of bytes ≡ Some words
  pub code : length p.code.now ≡ 4 * words
  pub entry : entry_of bytes ≡ Some p.entry
  pub fixed : fixed_size_of bytes ≡ Some (length p.fixed.now)
  pub area : area_size_of bytes ≡ Some (length p.area.now)
  pub rest : drop (code_at bytes) bytes ≡ p.code.now ++ p.fixed.now ++ p.area.now
  pub bounded : AreBounded p.entry words (length p.fixed.now) (length p.area.now)

-- i has the contents of the bytes, which are good
pub record HasContents (bytes : List ℕ) (i : Contents) : Type 0 where
  pub good : fault_of bytes ≡ None
  pub entry : entry_of bytes ≡ Some i.entry
  pub words : words_of bytes ≡ Some (length i.code)
  pub fixed : fixed_size_of bytes ≡ Some (length i.fixed)
  pub area : area_size_of bytes ≡ Some (length i.area)
  pub rest : drop (code_at bytes) bytes ≡ flat_map number_bytes i.code ++ i.fixed ++ i.area
  pub image : IsImage i
