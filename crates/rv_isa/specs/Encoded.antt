use Rattle.std.specs.Prelude.{◌≡◌, ℕ, ◌+◌, ◌*◌, ◌^◌}
use Rattle.std.specs.Int.{w32, cast_unsigned}
use Rattle.rv_isa.specs.declared.op.Form.{Form}
use Rattle.rv_isa.specs.declared.op.Form.TheVariants as form
use Rattle.rv_isa.specs.declared.op.Row.{Row}
use Rattle.rv_isa.specs.declared.instr.Instr.{Instr}
use Rattle.rv_isa.specs.declared.instr.Instr.TheVariants.{Upper, Jal, Jalr, Branch, Load, Save, Imm, Three, Fence, Ecall, Ebreak}
use Rattle.rv_isa.specs.Table.{row_of}
use Rattle.rv_isa.specs.Fields.{bits_of}
use Rattle.rv_isa.specs.Valid.{IsInstr}

-- The types of words. Each is the sum of its fields, which do not overlap; n is the immediate's bits.

abbrev pub r_word : Row → ℕ → ℕ → ℕ → ℕ
r_word r rd rs1 rs2 = r.opcode + rd * 2 ^ 7 + r.funct3 * 2 ^ 12 + rs1 * 2 ^ 15 + rs2 * 2 ^ 20 + r.funct7 * 2 ^ 25

abbrev pub i_word : ℕ → ℕ → ℕ → ℕ → ℕ → ℕ
i_word opcode funct3 rd rs1 n = opcode + rd * 2 ^ 7 + funct3 * 2 ^ 12 + rs1 * 2 ^ 15 + bits_of n 0 12 * 2 ^ 20

abbrev pub shift_word : Row → ℕ → ℕ → ℕ → ℕ
shift_word r rd rs1 n = r.opcode + rd * 2 ^ 7 + r.funct3 * 2 ^ 12 + rs1 * 2 ^ 15 + bits_of n 0 6 * 2 ^ 20 + r.funct7 * 2 ^ 26

abbrev pub s_word : Row → ℕ → ℕ → ℕ → ℕ
s_word r rs1 rs2 n = r.opcode + bits_of n 0 5 * 2 ^ 7 + r.funct3 * 2 ^ 12 + rs1 * 2 ^ 15 + rs2 * 2 ^ 20 + bits_of n 5 7 * 2 ^ 25

abbrev pub b_word : Row → ℕ → ℕ → ℕ → ℕ
b_word r rs1 rs2 n =
    r.opcode + bits_of n 11 1 * 2 ^ 7 + bits_of n 1 4 * 2 ^ 8 + r.funct3 * 2 ^ 12 + rs1 * 2 ^ 15 + rs2 * 2 ^ 20
    + bits_of n 5 6 * 2 ^ 25 + bits_of n 12 1 * 2 ^ 31

abbrev pub u_word : Row → ℕ → ℕ → ℕ
u_word r rd n = r.opcode + rd * 2 ^ 7 + bits_of n 12 20 * 2 ^ 12

abbrev pub j_word : ℕ → ℕ → ℕ → ℕ
j_word opcode rd n =
    opcode + rd * 2 ^ 7 + bits_of n 12 8 * 2 ^ 12 + bits_of n 11 1 * 2 ^ 20 + bits_of n 1 10 * 2 ^ 21
    + bits_of n 20 1 * 2 ^ 31

-- the word of an operation of this form on a register and a number
abbrev pub imm_word : Form → Row → ℕ → ℕ → ℕ → ℕ
imm_word form.Shift r rd rs1 n = shift_word r rd rs1 n
imm_word form.ShiftWord r rd rs1 n = r_word r rd rs1 (bits_of n 0 5)
imm_word _ r rd rs1 n = i_word r.opcode r.funct3 rd rs1 n

-- the word of an instruction
abbrev pub encoded : Instr → ℕ
encoded (Upper op rd imm) = u_word (row_of op) rd (cast_unsigned w32 imm)
encoded (Jal rd imm) = j_word 0x6f rd (cast_unsigned w32 imm)
encoded (Jalr rd rs1 imm) = i_word 0x67 0 rd rs1 (cast_unsigned w32 imm)
encoded (Branch op rs1 rs2 imm) = b_word (row_of op) rs1 rs2 (cast_unsigned w32 imm)
encoded (Load op rd rs1 imm) = i_word (row_of op).opcode (row_of op).funct3 rd rs1 (cast_unsigned w32 imm)
encoded (Save op rs1 rs2 imm) = s_word (row_of op) rs1 rs2 (cast_unsigned w32 imm)
encoded (Imm op rd rs1 imm) = imm_word (row_of op).form (row_of op) rd rs1 (cast_unsigned w32 imm)
encoded (Three op rd rs1 rs2) = r_word (row_of op) rd rs1 rs2
encoded (Fence rd rs1 imm) = i_word 0x0f 0 rd rs1 (cast_unsigned w32 imm)
encoded Ecall = 0x73
encoded Ebreak = 0x100073

-- the instruction is one, and w is its word
pub record IsWordOf (w : ℕ) (i : Instr) : Type 0 where
  pub instr : IsInstr i
  pub word : encoded i ≡ w
