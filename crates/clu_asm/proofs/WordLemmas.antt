-- The words of instructions: each has 32 bits, and none ends with the hexadecimal digit 0.

use Rattle.std.proofs.Common.{◌≡◌, ℕ, ◌+◌, ◌*◌, ◌/◌, ◌%◌, ◌^◌, ◌<◌, Option, Some, None, IfSome, refl, arith}
use Rattle.std.specs.Int.{w32, cast_unsigned}
use Rattle.rv_isa.specs.declared.op.Op.{Op}
use Rattle.rv_isa.specs.declared.op.Op.TheVariants as op
use Rattle.rv_isa.specs.declared.instr.Instr.{Instr}
use Rattle.rv_isa.specs.declared.instr.Instr.TheVariants.{Upper, Jal, Jalr, Branch, Load, Save, Imm, Three, Fence, Ecall, Ebreak}
use Rattle.rv_isa.specs.Table.{row_of}
use Rattle.rv_isa.specs.Valid.{IsInstr}
use Rattle.rv_isa.specs.Encoded.{encoded, imm_word, IsWordOf}
use Rattle.rv_isa.specs.Decoded.{decoded}
use Rattle.rv_isa.proofs.RowLemmas.{fields_of}
use Rattle.rv_isa.proofs.WordToInstr.{encoded-decoded}

-- ---- 32 bits

imm_small : (o : Op) (rd rs1 n : ℕ) → rd < 32 → rs1 < 32 → imm_word (row_of o).form (row_of o) rd rs1 n < 2 ^ 32
imm_small op.Lui rd rs1 n d s = omega arith
imm_small _ rd rs1 n d s = omega arith

pub small_word : (i : Instr) → IsInstr i → encoded i < 2 ^ 32
small_word (Upper o rd imm) h = let r = fields_of o in omega (arith, h.registers)
small_word (Jal rd imm) h = omega (arith, h.registers)
small_word (Jalr rd rs1 imm) h = omega (arith, h.registers.0, h.registers.1)
small_word (Branch o rs1 rs2 imm) h = let r = fields_of o in omega (arith, h.registers.0, h.registers.1)
small_word (Load o rd rs1 imm) h = let r = fields_of o in omega (arith, h.registers.0, h.registers.1)
small_word (Save o rs1 rs2 imm) h = let r = fields_of o in omega (arith, h.registers.0, h.registers.1)
small_word (Imm o rd rs1 imm) h = imm_small o rd rs1 (cast_unsigned w32 imm) h.registers.0 h.registers.1
small_word (Three o rd rs1 rs2) h = let r = fields_of o in omega (arith, h.registers.0, h.registers.1, h.registers.2)
small_word (Fence rd rs1 imm) h = omega (arith, h.registers.0, h.registers.1)
small_word Ecall h = omega arith
small_word Ebreak h = omega arith

-- ---- the last digit

low_opcode : (o : Op) → (row_of o).opcode % 4 ≡ 3
low_opcode op.Lui = refl
low_opcode _ = refl

imm_low : (o : Op) (rd rs1 n : ℕ) → imm_word (row_of o).form (row_of o) rd rs1 n % 4 ≡ 3
imm_low op.Lui rd rs1 n = omega arith
imm_low _ rd rs1 n = omega arith

low_word : (i : Instr) → encoded i % 4 ≡ 3
low_word (Upper o rd imm) = omega (arith, low_opcode o)
low_word (Jal rd imm) = omega arith
low_word (Jalr rd rs1 imm) = omega arith
low_word (Branch o rs1 rs2 imm) = omega (arith, low_opcode o)
low_word (Load o rd rs1 imm) = omega (arith, low_opcode o)
low_word (Save o rs1 rs2 imm) = omega (arith, low_opcode o)
low_word (Imm o rd rs1 imm) = imm_low o rd rs1 (cast_unsigned w32 imm)
low_word (Three o rd rs1 rs2) = omega (arith, low_opcode o)
low_word (Fence rd rs1 imm) = omega arith
low_word Ecall = refl
low_word Ebreak = refl

pub zero_none : (w : ℕ) → w < 2 ^ 32 → w % 16 ≡ 0 → decoded w ≡ None
zero_none w lt z = by (decoded w) (encoded-decoded w lt)
  where
    by : (o : Option Instr) → IfSome o (IsWordOf w) → o ≡ None
    by None h = refl
    by (Some i) h = absurd (omega (arith, low_word i, h.word, z))
