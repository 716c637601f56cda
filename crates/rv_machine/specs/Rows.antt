-- The instruction that a decoded row of the code stands for.
use Rattle.std.specs.Prelude.{◌≡◌, ℕ, ℤ, Option, Some, None}
use Rattle.rv_isa.specs.declared.instr.Instr.{Instr}
use Rattle.rv_isa.specs.declared.instr.Instr.TheVariants as instr
use Rattle.rv_isa.specs.declared.op.Op.{Op}
use Rattle.rv_isa.specs.declared.op.Op.TheVariants as op
use Rattle.rv_machine.specs.declared.row.Code.{Code}
use Rattle.rv_machine.specs.declared.row.Code.TheVariants as code
use Rattle.rv_machine.specs.declared.row.Row.{Row}

abbrev pub instr_by : Code → ℕ → ℕ → ℕ → ℤ → Option Instr
instr_by code.Lui rd rs1 rs2 imm = Some (instr.Upper op.Lui rd imm)
instr_by code.Auipc rd rs1 rs2 imm = Some (instr.Upper op.Auipc rd imm)
instr_by code.Beq rd rs1 rs2 imm = Some (instr.Branch op.Beq rs1 rs2 imm)
instr_by code.Bne rd rs1 rs2 imm = Some (instr.Branch op.Bne rs1 rs2 imm)
instr_by code.Blt rd rs1 rs2 imm = Some (instr.Branch op.Blt rs1 rs2 imm)
instr_by code.Bge rd rs1 rs2 imm = Some (instr.Branch op.Bge rs1 rs2 imm)
instr_by code.Bltu rd rs1 rs2 imm = Some (instr.Branch op.Bltu rs1 rs2 imm)
instr_by code.Bgeu rd rs1 rs2 imm = Some (instr.Branch op.Bgeu rs1 rs2 imm)
instr_by code.Lb rd rs1 rs2 imm = Some (instr.Load op.Lb rd rs1 imm)
instr_by code.Lh rd rs1 rs2 imm = Some (instr.Load op.Lh rd rs1 imm)
instr_by code.Lw rd rs1 rs2 imm = Some (instr.Load op.Lw rd rs1 imm)
instr_by code.Ld rd rs1 rs2 imm = Some (instr.Load op.Ld rd rs1 imm)
instr_by code.Lbu rd rs1 rs2 imm = Some (instr.Load op.Lbu rd rs1 imm)
instr_by code.Lhu rd rs1 rs2 imm = Some (instr.Load op.Lhu rd rs1 imm)
instr_by code.Lwu rd rs1 rs2 imm = Some (instr.Load op.Lwu rd rs1 imm)
instr_by code.Sb rd rs1 rs2 imm = Some (instr.Save op.Sb rs1 rs2 imm)
instr_by code.Sh rd rs1 rs2 imm = Some (instr.Save op.Sh rs1 rs2 imm)
instr_by code.Sw rd rs1 rs2 imm = Some (instr.Save op.Sw rs1 rs2 imm)
instr_by code.Sd rd rs1 rs2 imm = Some (instr.Save op.Sd rs1 rs2 imm)
instr_by code.Addi rd rs1 rs2 imm = Some (instr.Imm op.Addi rd rs1 imm)
instr_by code.Slti rd rs1 rs2 imm = Some (instr.Imm op.Slti rd rs1 imm)
instr_by code.Sltiu rd rs1 rs2 imm = Some (instr.Imm op.Sltiu rd rs1 imm)
instr_by code.Xori rd rs1 rs2 imm = Some (instr.Imm op.Xori rd rs1 imm)
instr_by code.Ori rd rs1 rs2 imm = Some (instr.Imm op.Ori rd rs1 imm)
instr_by code.Andi rd rs1 rs2 imm = Some (instr.Imm op.Andi rd rs1 imm)
instr_by code.Slli rd rs1 rs2 imm = Some (instr.Imm op.Slli rd rs1 imm)
instr_by code.Srli rd rs1 rs2 imm = Some (instr.Imm op.Srli rd rs1 imm)
instr_by code.Srai rd rs1 rs2 imm = Some (instr.Imm op.Srai rd rs1 imm)
instr_by code.Add rd rs1 rs2 imm = Some (instr.Three op.Add rd rs1 rs2)
instr_by code.Sub rd rs1 rs2 imm = Some (instr.Three op.Sub rd rs1 rs2)
instr_by code.Sll rd rs1 rs2 imm = Some (instr.Three op.Sll rd rs1 rs2)
instr_by code.Slt rd rs1 rs2 imm = Some (instr.Three op.Slt rd rs1 rs2)
instr_by code.Sltu rd rs1 rs2 imm = Some (instr.Three op.Sltu rd rs1 rs2)
instr_by code.Xor rd rs1 rs2 imm = Some (instr.Three op.Xor rd rs1 rs2)
instr_by code.Srl rd rs1 rs2 imm = Some (instr.Three op.Srl rd rs1 rs2)
instr_by code.Sra rd rs1 rs2 imm = Some (instr.Three op.Sra rd rs1 rs2)
instr_by code.Or rd rs1 rs2 imm = Some (instr.Three op.Or rd rs1 rs2)
instr_by code.And rd rs1 rs2 imm = Some (instr.Three op.And rd rs1 rs2)
instr_by code.Mul rd rs1 rs2 imm = Some (instr.Three op.Mul rd rs1 rs2)
instr_by code.Mulh rd rs1 rs2 imm = Some (instr.Three op.Mulh rd rs1 rs2)
instr_by code.Mulhsu rd rs1 rs2 imm = Some (instr.Three op.Mulhsu rd rs1 rs2)
instr_by code.Mulhu rd rs1 rs2 imm = Some (instr.Three op.Mulhu rd rs1 rs2)
instr_by code.Div rd rs1 rs2 imm = Some (instr.Three op.Div rd rs1 rs2)
instr_by code.Divu rd rs1 rs2 imm = Some (instr.Three op.Divu rd rs1 rs2)
instr_by code.Rem rd rs1 rs2 imm = Some (instr.Three op.Rem rd rs1 rs2)
instr_by code.Remu rd rs1 rs2 imm = Some (instr.Three op.Remu rd rs1 rs2)
instr_by code.Addiw rd rs1 rs2 imm = Some (instr.Imm op.Addiw rd rs1 imm)
instr_by code.Slliw rd rs1 rs2 imm = Some (instr.Imm op.Slliw rd rs1 imm)
instr_by code.Srliw rd rs1 rs2 imm = Some (instr.Imm op.Srliw rd rs1 imm)
instr_by code.Sraiw rd rs1 rs2 imm = Some (instr.Imm op.Sraiw rd rs1 imm)
instr_by code.Addw rd rs1 rs2 imm = Some (instr.Three op.Addw rd rs1 rs2)
instr_by code.Subw rd rs1 rs2 imm = Some (instr.Three op.Subw rd rs1 rs2)
instr_by code.Sllw rd rs1 rs2 imm = Some (instr.Three op.Sllw rd rs1 rs2)
instr_by code.Srlw rd rs1 rs2 imm = Some (instr.Three op.Srlw rd rs1 rs2)
instr_by code.Sraw rd rs1 rs2 imm = Some (instr.Three op.Sraw rd rs1 rs2)
instr_by code.Mulw rd rs1 rs2 imm = Some (instr.Three op.Mulw rd rs1 rs2)
instr_by code.Divw rd rs1 rs2 imm = Some (instr.Three op.Divw rd rs1 rs2)
instr_by code.Divuw rd rs1 rs2 imm = Some (instr.Three op.Divuw rd rs1 rs2)
instr_by code.Remw rd rs1 rs2 imm = Some (instr.Three op.Remw rd rs1 rs2)
instr_by code.Remuw rd rs1 rs2 imm = Some (instr.Three op.Remuw rd rs1 rs2)
instr_by code.Jal rd rs1 rs2 imm = Some (instr.Jal rd imm)
instr_by code.Jalr rd rs1 rs2 imm = Some (instr.Jalr rd rs1 imm)
instr_by code.Fence rd rs1 rs2 imm = Some (instr.Fence rd rs1 imm)
instr_by code.Ecall rd rs1 rs2 imm = Some instr.Ecall
instr_by code.Ebreak rd rs1 rs2 imm = Some instr.Ebreak
instr_by code.Unknown rd rs1 rs2 imm = None

unfoldable pub instr_of : Row → Option Instr
instr_of r = instr_by r.code r.rd r.rs1 r.rs2 r.imm

-- the instruction of a mnemonic, with those of these operands that its form has
abbrev pub instr_with : Op → ℕ → ℕ → ℕ → ℤ → Instr
instr_with op.Lui rd rs1 rs2 imm = instr.Upper op.Lui rd imm
instr_with op.Auipc rd rs1 rs2 imm = instr.Upper op.Auipc rd imm
instr_with op.Beq rd rs1 rs2 imm = instr.Branch op.Beq rs1 rs2 imm
instr_with op.Bne rd rs1 rs2 imm = instr.Branch op.Bne rs1 rs2 imm
instr_with op.Blt rd rs1 rs2 imm = instr.Branch op.Blt rs1 rs2 imm
instr_with op.Bge rd rs1 rs2 imm = instr.Branch op.Bge rs1 rs2 imm
instr_with op.Bltu rd rs1 rs2 imm = instr.Branch op.Bltu rs1 rs2 imm
instr_with op.Bgeu rd rs1 rs2 imm = instr.Branch op.Bgeu rs1 rs2 imm
instr_with op.Lb rd rs1 rs2 imm = instr.Load op.Lb rd rs1 imm
instr_with op.Lh rd rs1 rs2 imm = instr.Load op.Lh rd rs1 imm
instr_with op.Lw rd rs1 rs2 imm = instr.Load op.Lw rd rs1 imm
instr_with op.Ld rd rs1 rs2 imm = instr.Load op.Ld rd rs1 imm
instr_with op.Lbu rd rs1 rs2 imm = instr.Load op.Lbu rd rs1 imm
instr_with op.Lhu rd rs1 rs2 imm = instr.Load op.Lhu rd rs1 imm
instr_with op.Lwu rd rs1 rs2 imm = instr.Load op.Lwu rd rs1 imm
instr_with op.Sb rd rs1 rs2 imm = instr.Save op.Sb rs1 rs2 imm
instr_with op.Sh rd rs1 rs2 imm = instr.Save op.Sh rs1 rs2 imm
instr_with op.Sw rd rs1 rs2 imm = instr.Save op.Sw rs1 rs2 imm
instr_with op.Sd rd rs1 rs2 imm = instr.Save op.Sd rs1 rs2 imm
instr_with op.Addi rd rs1 rs2 imm = instr.Imm op.Addi rd rs1 imm
instr_with op.Slti rd rs1 rs2 imm = instr.Imm op.Slti rd rs1 imm
instr_with op.Sltiu rd rs1 rs2 imm = instr.Imm op.Sltiu rd rs1 imm
instr_with op.Xori rd rs1 rs2 imm = instr.Imm op.Xori rd rs1 imm
instr_with op.Ori rd rs1 rs2 imm = instr.Imm op.Ori rd rs1 imm
instr_with op.Andi rd rs1 rs2 imm = instr.Imm op.Andi rd rs1 imm
instr_with op.Slli rd rs1 rs2 imm = instr.Imm op.Slli rd rs1 imm
instr_with op.Srli rd rs1 rs2 imm = instr.Imm op.Srli rd rs1 imm
instr_with op.Srai rd rs1 rs2 imm = instr.Imm op.Srai rd rs1 imm
instr_with op.Addiw rd rs1 rs2 imm = instr.Imm op.Addiw rd rs1 imm
instr_with op.Slliw rd rs1 rs2 imm = instr.Imm op.Slliw rd rs1 imm
instr_with op.Srliw rd rs1 rs2 imm = instr.Imm op.Srliw rd rs1 imm
instr_with op.Sraiw rd rs1 rs2 imm = instr.Imm op.Sraiw rd rs1 imm
instr_with other rd rs1 rs2 imm = instr.Three other rd rs1 rs2

-- the instruction has the form of its mnemonic; the operands named here are those that it lacks
abbrev pub HasForm : Instr → Type 0
HasForm (instr.Upper op rd imm) = (_ rs1 rs2 : ℕ) (_ : ℤ) → instr_with op rd rs1 rs2 imm ≡ instr.Upper op rd imm
HasForm (instr.Branch op rs1 rs2 imm) = (rd _ _ : ℕ) (_ : ℤ) → instr_with op rd rs1 rs2 imm ≡ instr.Branch op rs1 rs2 imm
HasForm (instr.Load op rd rs1 imm) = (_ _ rs2 : ℕ) (_ : ℤ) → instr_with op rd rs1 rs2 imm ≡ instr.Load op rd rs1 imm
HasForm (instr.Save op rs1 rs2 imm) = (rd _ _ : ℕ) (_ : ℤ) → instr_with op rd rs1 rs2 imm ≡ instr.Save op rs1 rs2 imm
HasForm (instr.Imm op rd rs1 imm) = (_ _ rs2 : ℕ) (_ : ℤ) → instr_with op rd rs1 rs2 imm ≡ instr.Imm op rd rs1 imm
HasForm (instr.Three op rd rs1 rs2) = (_ _ _ : ℕ) (imm : ℤ) → instr_with op rd rs1 rs2 imm ≡ instr.Three op rd rs1 rs2
HasForm other = Unit {0}
