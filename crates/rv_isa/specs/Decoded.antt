use Rattle.std.specs.Prelude.{ℕ, pos, ◌==◌, ◌&&◌, if◌then◌else◌, Option, Some, None}
use Rattle.std.specs.List.{find}
use Rattle.std.specs.Option.{option_map_or}
use Rattle.rv_isa.specs.declared.op.Form.{Form}
use Rattle.rv_isa.specs.declared.op.Form.TheVariants as form
use Rattle.rv_isa.specs.declared.op.Op.{Op}
use Rattle.rv_isa.specs.declared.op.TheConstants.{OPS}
use Rattle.rv_isa.specs.declared.instr.Instr.{Instr}
use Rattle.rv_isa.specs.declared.instr.Instr.TheVariants.{Upper, Jal, Jalr, Branch, Load, Save, Imm, Three, Fence, Ecall, Ebreak}
use Rattle.rv_isa.specs.Table.{row_of, has_row}
use Rattle.rv_isa.specs.Fields.{opcode_of, rd_of, funct3_of, rs1_of, rs2_of, funct6_of, funct7_of, bits_of, i_imm, s_imm, b_imm, u_imm, j_imm}

-- the mnemonic whose row has these fields: opcode, funct3, funct6 and funct7
unfoldable pub named_by : ℕ → ℕ → ℕ → ℕ → Option Op
named_by opcode funct3 funct6 funct7 = find (λ op. has_row (row_of op) opcode funct3 funct6 funct7) OPS

-- the mnemonic whose row has the fields of the word
abbrev pub named : ℕ → Option Op
named w = named_by (opcode_of w) (funct3_of w) (funct6_of w) (funct7_of w)

-- the instruction of a mnemonic of this form in the word
abbrev pub instr_of : Form → Op → ℕ → Instr
instr_of form.Upper op w = Upper op (rd_of w) (u_imm w)
instr_of form.Branch op w = Branch op (rs1_of w) (rs2_of w) (b_imm w)
instr_of form.Load op w = Load op (rd_of w) (rs1_of w) (i_imm w)
instr_of form.Save op w = Save op (rs1_of w) (rs2_of w) (s_imm w)
instr_of form.Imm op w = Imm op (rd_of w) (rs1_of w) (i_imm w)
instr_of form.Shift op w = Imm op (rd_of w) (rs1_of w) (pos (bits_of w 20 6))
instr_of form.ShiftWord op w = Imm op (rd_of w) (rs1_of w) (pos (bits_of w 20 5))
instr_of form.Three op w = Three op (rd_of w) (rs1_of w) (rs2_of w)

-- the instruction of a word that no mnemonic of the table names
abbrev pub unnamed : ℕ → Option Instr
unnamed w =
    if opcode_of w == 0x6f then Some (Jal (rd_of w) (j_imm w))
    else (if opcode_of w == 0x67 && funct3_of w == 0 then Some (Jalr (rd_of w) (rs1_of w) (i_imm w))
    else (if opcode_of w == 0x0f && funct3_of w == 0 then Some (Fence (rd_of w) (rs1_of w) (i_imm w))
    else (if w == 0x73 then Some Ecall
    else (if w == 0x100073 then Some Ebreak
    else None))))

-- the instruction that a word is, if it is in the table
abbrev pub decoded : ℕ → Option Instr
decoded w = option_map_or (λ op. Some (instr_of (row_of op).form op w)) (named w) (unnamed w)
