use Rattle.std.specs.Prelude.{◌≡◌, ℕ, ◌+◌, ◌%◌, ◌<◌, ◌≤◌, List, Some, None}
use Rattle.rv_isa.specs.Image.{max_words, max_bytes}
use Rattle.clu_image.specs.declared.header.Header.{Header}
use Rattle.clu_image.specs.Faults.{first_fault, head_fields, entry_of, words_of, fixed_size_of, area_size_of, code_at}

-- the numbers at the head of a file are those of an image
pub record AreBounded (entry words fixed area : ℕ) : Type 0 where
  pub enters : entry < words
  pub few_words : words ≤ max_words
  pub whole_fixed : fixed % 8 ≡ 0
  pub whole_area : area % 8 ≡ 0
  pub room : fixed + area ≤ max_bytes

-- h has the numbers at the head of the bytes, which are good
pub record HasHeader (bytes : List ℕ) (h : Header) : Type 0 where
  pub good : first_fault (head_fields bytes) ≡ None
  pub entry : entry_of bytes ≡ Some h.entry
  pub words : words_of bytes ≡ Some h.words
  pub fixed : fixed_size_of bytes ≡ Some h.fixed
  pub area : area_size_of bytes ≡ Some h.area
  pub code_at : code_at bytes ≡ h.code_at
  pub bounded : AreBounded h.entry h.words h.fixed h.area
