-- Where bytes that are no assembly text are refused.

use Rattle.std.specs.Prelude.{◌≡◌, ◌⊎◌, ℕ, ◌+◌, List, [], ◌++◌, take, length}
use Rattle.clu_base.specs.declared.errors.FormatError.{FormatError}
use Rattle.clu_base.specs.declared.errors.FormatError.TheVariants as format_error
use Rattle.rv_isa.specs.Image.{Contents, IsImage}
use Rattle.clu_asm.specs.AssemblyText.{line, asm_text}
use Rattle.clu_asm.specs.Places.{place, IsFront}

-- some continuation of the bytes, maybe themselves, is an assembly text
abbrev pub GoesOn : List ℕ → Type 0
GoesOn bytes = (image : Contents) × IsImage image × IsFront bytes (asm_text image)

-- nothing, or lines that each end with byte 10
abbrev pub AreLines : List ℕ → Type 0
AreLines bytes = (bytes ≡ []) ⊎ ((text : List ℕ) × (bytes ≡ line text))

-- the first line with its byte 10, or all if no byte 10 stands there
abbrev pub first_line : List ℕ → List ℕ
first_line bytes = take (place 10 bytes + 1) bytes

-- at n starts the first line after which no continuation is an assembly text
pub record IsBadLineAt (n : ℕ) (bytes : List ℕ) : Type 0 where
  pub before : List ℕ
  pub rest : List ℕ
  pub parts : bytes ≡ before ++ rest
  pub at : n ≡ length before
  pub lines : AreLines before
  pub goes_on : GoesOn before
  pub stops : GoesOn (before ++ first_line rest) → ⊥

-- bytes that are no assembly text are refused at the start of the first line after which no
-- continuation is one, or at their length if there is no such line
abbrev pub IsFaultAt : ℕ → List ℕ → Type 0
IsFaultAt n bytes = ((n ≡ length bytes) × GoesOn bytes) ⊎ IsBadLineAt n bytes

-- the refusal names the place of the fault
abbrev pub IsFault : FormatError → List ℕ → Type 0
IsFault (format_error.Bad n) bytes = IsFaultAt n bytes
IsFault format_error.Memory bytes = Unit {0}
