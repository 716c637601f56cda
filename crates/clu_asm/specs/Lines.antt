-- Where a reader of lines stops.

use Rattle.std.specs.Prelude.{◌≡◌, ◌≢◌, ℕ, ◌^◌, ◌<◌, List, ◌++◌, length}
use Rattle.rv_isa.specs.Image.{AreBytes}
use Rattle.clu_asm.specs.AssemblyText.{code_line, row_line}

-- the text doesn't begin with the line of a code word
abbrev pub NoCode : List ℕ → Type 0
NoCode text = (w : ℕ) (rest : List ℕ) → w < 2 ^ 32 → text ≢ code_line w ++ rest

-- the text doesn't begin with a line of eight bytes with this word
abbrev pub NoRow : List ℕ → List ℕ → Type 0
NoRow word text = (row rest : List ℕ) → length row ≡ 8 → AreBytes row → text ≢ row_line word row ++ rest
