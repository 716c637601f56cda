-- Words of code.
use Rattle.std.specs.Prelude.{ℕ, List, Bool, IsTrue, is_some, All, Option, Some, None}
use Rattle.rv_isa.specs.declared.instr.Instr.{Instr}
use Rattle.rv_isa.specs.declared.instr.Instr.TheVariants as instr
use Rattle.rv_isa.specs.Decoded.{decoded}

-- whether the word is that of an instruction
unfoldable pub is_instruction : ℕ → Bool
is_instruction word = is_some (decoded word)

abbrev pub IsInstruction : ℕ → Type 0
IsInstruction word = IsTrue (is_instruction word)

abbrev pub or_call : Option Instr → Instr
or_call None = instr.Ecall
or_call (Some i) = i

-- the instruction of a word that is one
unfoldable pub read : ℕ → Instr
read word = or_call (decoded word)

abbrev pub AreInstructions : List ℕ → Type 0
AreInstructions words = All IsInstruction words
