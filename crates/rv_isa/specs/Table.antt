-- The instruction table: the form of each mnemonic's word and the fields that name it, as the
-- listings of the RISC-V unprivileged specification have them.

use Rattle.std.specs.Prelude.{ℕ, ◌^◌, ◌<◌, ◌==◌, ◌&&◌, Bool, true}
use Rattle.rv_isa.specs.declared.op.Form.{Form}
use Rattle.rv_isa.specs.declared.op.Form.TheVariants.{Upper, Branch, Load, Save, Imm, Shift, ShiftWord, Three}
use Rattle.rv_isa.specs.declared.op.Row.{Row}
use Rattle.rv_isa.specs.declared.op.Op.{Op}
use Rattle.rv_isa.specs.declared.op.Op.TheVariants as op

abbrev pub row : Form → ℕ → ℕ → ℕ → Row
row form opcode funct3 funct7 = record { form = form; opcode = opcode; funct3 = funct3; funct7 = funct7 }

-- form, opcode, funct3 and funct7 (of Shift bits 31:26)
abbrev pub row_of : Op → Row
row_of op.Lui = row Upper 0x37 0 0x00
row_of op.Auipc = row Upper 0x17 0 0x00
row_of op.Beq = row Branch 0x63 0 0x00
row_of op.Bne = row Branch 0x63 1 0x00
row_of op.Blt = row Branch 0x63 4 0x00
row_of op.Bge = row Branch 0x63 5 0x00
row_of op.Bltu = row Branch 0x63 6 0x00
row_of op.Bgeu = row Branch 0x63 7 0x00
row_of op.Lb = row Load 0x03 0 0x00
row_of op.Lh = row Load 0x03 1 0x00
row_of op.Lw = row Load 0x03 2 0x00
row_of op.Ld = row Load 0x03 3 0x00
row_of op.Lbu = row Load 0x03 4 0x00
row_of op.Lhu = row Load 0x03 5 0x00
row_of op.Lwu = row Load 0x03 6 0x00
row_of op.Sb = row Save 0x23 0 0x00
row_of op.Sh = row Save 0x23 1 0x00
row_of op.Sw = row Save 0x23 2 0x00
row_of op.Sd = row Save 0x23 3 0x00
row_of op.Addi = row Imm 0x13 0 0x00
row_of op.Slti = row Imm 0x13 2 0x00
row_of op.Sltiu = row Imm 0x13 3 0x00
row_of op.Xori = row Imm 0x13 4 0x00
row_of op.Ori = row Imm 0x13 6 0x00
row_of op.Andi = row Imm 0x13 7 0x00
row_of op.Slli = row Shift 0x13 1 0x00
row_of op.Srli = row Shift 0x13 5 0x00
row_of op.Srai = row Shift 0x13 5 0x10
row_of op.Add = row Three 0x33 0 0x00
row_of op.Sub = row Three 0x33 0 0x20
row_of op.Sll = row Three 0x33 1 0x00
row_of op.Slt = row Three 0x33 2 0x00
row_of op.Sltu = row Three 0x33 3 0x00
row_of op.Xor = row Three 0x33 4 0x00
row_of op.Srl = row Three 0x33 5 0x00
row_of op.Sra = row Three 0x33 5 0x20
row_of op.Or = row Three 0x33 6 0x00
row_of op.And = row Three 0x33 7 0x00
row_of op.Mul = row Three 0x33 0 0x01
row_of op.Mulh = row Three 0x33 1 0x01
row_of op.Mulhsu = row Three 0x33 2 0x01
row_of op.Mulhu = row Three 0x33 3 0x01
row_of op.Div = row Three 0x33 4 0x01
row_of op.Divu = row Three 0x33 5 0x01
row_of op.Rem = row Three 0x33 6 0x01
row_of op.Remu = row Three 0x33 7 0x01
row_of op.Addiw = row Imm 0x1b 0 0x00
row_of op.Slliw = row ShiftWord 0x1b 1 0x00
row_of op.Srliw = row ShiftWord 0x1b 5 0x00
row_of op.Sraiw = row ShiftWord 0x1b 5 0x20
row_of op.Addw = row Three 0x3b 0 0x00
row_of op.Subw = row Three 0x3b 0 0x20
row_of op.Sllw = row Three 0x3b 1 0x00
row_of op.Srlw = row Three 0x3b 5 0x00
row_of op.Sraw = row Three 0x3b 5 0x20
row_of op.Mulw = row Three 0x3b 0 0x01
row_of op.Divw = row Three 0x3b 4 0x01
row_of op.Divuw = row Three 0x3b 5 0x01
row_of op.Remw = row Three 0x3b 6 0x01
row_of op.Remuw = row Three 0x3b 7 0x01

-- the row's numbers fit their fields; bit 31 of no row is set
pub record HasFields (r : Row) : Type 0 where
  pub opcode : r.opcode < 2 ^ 7
  pub funct3 : r.funct3 < 2 ^ 3
  pub funct7 : r.funct7 < 2 ^ 6

-- whether the fields that name the form's instructions are the row's
abbrev pub is_named : Form → Row → ℕ → ℕ → ℕ → Bool
is_named Upper r funct3 funct6 funct7 = true
is_named Shift r funct3 funct6 funct7 = r.funct3 == funct3 && r.funct7 == funct6
is_named ShiftWord r funct3 funct6 funct7 = r.funct3 == funct3 && r.funct7 == funct7
is_named Three r funct3 funct6 funct7 = r.funct3 == funct3 && r.funct7 == funct7
is_named _ r funct3 funct6 funct7 = r.funct3 == funct3

-- whether a word with these fields is of the row
abbrev pub has_row : Row → ℕ → ℕ → ℕ → ℕ → Bool
has_row r opcode funct3 funct6 funct7 = r.opcode == opcode && is_named r.form r funct3 funct6 funct7
