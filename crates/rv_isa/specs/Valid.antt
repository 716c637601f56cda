-- Which instructions have a word: the mnemonic is of the instruction's form, and the immediate fits.

use Rattle.std.specs.Prelude.{◌≡◌, ℕ, ℤ, pos, ◌%◌, ◌^◌, ◌<◌, ◌≤ℤ◌, ◌<ℤ◌, ◌+ℤ◌}
use Rattle.std.specs.Int.{w32, cast_unsigned}
use Rattle.rv_isa.specs.declared.op.Form.{Form}
use Rattle.rv_isa.specs.declared.op.Form.TheVariants as form
use Rattle.rv_isa.specs.declared.instr.Instr.{Instr}
use Rattle.rv_isa.specs.declared.instr.Instr.TheVariants.{Upper, Jal, Jalr, Branch, Load, Save, Imm, Three, Fence, Ecall, Ebreak}
use Rattle.rv_isa.specs.Table.{row_of}

-- a number of two's complement whose sign bit is worth `half`
abbrev pub IsWithin : ℕ → ℤ → Type 0
IsWithin half z = (pos 0 ≤ℤ (z +ℤ pos half)) × (z <ℤ pos half)

-- the same, and even, since code stands at even addresses
abbrev pub IsDistance : ℕ → ℤ → Type 0
IsDistance half z = IsWithin half z × (cast_unsigned w32 z % 2 ≡ 0)

-- a number whose low 12 bits are zero
abbrev pub IsUpper : ℤ → Type 0
IsUpper z = IsWithin (2 ^ 31) z × (cast_unsigned w32 z % 2 ^ 12 ≡ 0)

-- an amount to shift by
abbrev pub IsAmount : ℕ → ℤ → Type 0
IsAmount limit z = (pos 0 ≤ℤ z) × (z <ℤ pos limit)

-- the number fits where an operation of this form on a register and a number keeps it
abbrev pub FitsForm : Form → ℤ → Type 0
FitsForm form.Imm z = IsWithin (2 ^ 11) z
FitsForm form.Shift z = IsAmount 64 z
FitsForm form.ShiftWord z = IsAmount 32 z
FitsForm _ z = ⊥

-- the mnemonic is of the instruction's form, and the immediate fits its field
abbrev pub IsValid : Instr → Type 0
IsValid (Upper op rd imm) = ((row_of op).form ≡ form.Upper) × IsUpper imm
IsValid (Jal rd imm) = IsDistance (2 ^ 20) imm
IsValid (Jalr rd rs1 imm) = IsWithin (2 ^ 11) imm
IsValid (Branch op rs1 rs2 imm) = ((row_of op).form ≡ form.Branch) × IsDistance (2 ^ 12) imm
IsValid (Load op rd rs1 imm) = ((row_of op).form ≡ form.Load) × IsWithin (2 ^ 11) imm
IsValid (Save op rs1 rs2 imm) = ((row_of op).form ≡ form.Save) × IsWithin (2 ^ 11) imm
IsValid (Imm op rd rs1 imm) = FitsForm (row_of op).form imm
IsValid (Three op rd rs1 rs2) = (row_of op).form ≡ form.Three
IsValid (Fence rd rs1 imm) = IsWithin (2 ^ 11) imm
IsValid Ecall = Unit {0}
IsValid Ebreak = Unit {0}

-- the registers' numbers are below 32, as the type of a register has it
abbrev pub HasRegisters : Instr → Type 0
HasRegisters (Upper op rd imm) = rd < 32
HasRegisters (Jal rd imm) = rd < 32
HasRegisters (Jalr rd rs1 imm) = (rd < 32) × (rs1 < 32)
HasRegisters (Branch op rs1 rs2 imm) = (rs1 < 32) × (rs2 < 32)
HasRegisters (Load op rd rs1 imm) = (rd < 32) × (rs1 < 32)
HasRegisters (Save op rs1 rs2 imm) = (rs1 < 32) × (rs2 < 32)
HasRegisters (Imm op rd rs1 imm) = (rd < 32) × (rs1 < 32)
HasRegisters (Three op rd rs1 rs2) = (rd < 32) × (rs1 < 32) × (rs2 < 32)
HasRegisters (Fence rd rs1 imm) = (rd < 32) × (rs1 < 32)
HasRegisters Ecall = Unit {0}
HasRegisters Ebreak = Unit {0}

-- an instruction that has a word
pub record IsInstr (i : Instr) : Type 0 where
  pub valid : IsValid i
  pub registers : HasRegisters i
