-- The mnemonics: what each is called, and which operands follow it.

use Rattle.std.specs.Prelude.{ℕ, List, codes}
use Rattle.rv_isa.specs.declared.op.Op.{Op}
use Rattle.rv_isa.specs.declared.op.Op.TheVariants as op
use Rattle.rv_isa.specs.declared.instr.Instr.{Instr}
use Rattle.rv_isa.specs.declared.instr.Instr.TheVariants as instr
use Rattle.clu_asm.specs.declared.mnemonics.Mnemonic.{Mnemonic}
use Rattle.clu_asm.specs.declared.mnemonics.Mnemonic.TheVariants.{Table, Jal, Jalr, Fence, Ecall, Ebreak}
use Rattle.clu_asm.specs.declared.mnemonics.Form.{Form}
use Rattle.clu_asm.specs.declared.mnemonics.Form.TheVariants as form

-- what an operation of the instruction table is called
unfoldable pub op_name : Op → List ℕ
op_name op.Lui = codes "lui"
op_name op.Auipc = codes "auipc"
op_name op.Beq = codes "beq"
op_name op.Bne = codes "bne"
op_name op.Blt = codes "blt"
op_name op.Bge = codes "bge"
op_name op.Bltu = codes "bltu"
op_name op.Bgeu = codes "bgeu"
op_name op.Lb = codes "lb"
op_name op.Lh = codes "lh"
op_name op.Lw = codes "lw"
op_name op.Ld = codes "ld"
op_name op.Lbu = codes "lbu"
op_name op.Lhu = codes "lhu"
op_name op.Lwu = codes "lwu"
op_name op.Sb = codes "sb"
op_name op.Sh = codes "sh"
op_name op.Sw = codes "sw"
op_name op.Sd = codes "sd"
op_name op.Addi = codes "addi"
op_name op.Slti = codes "slti"
op_name op.Sltiu = codes "sltiu"
op_name op.Xori = codes "xori"
op_name op.Ori = codes "ori"
op_name op.Andi = codes "andi"
op_name op.Slli = codes "slli"
op_name op.Srli = codes "srli"
op_name op.Srai = codes "srai"
op_name op.Add = codes "add"
op_name op.Sub = codes "sub"
op_name op.Sll = codes "sll"
op_name op.Slt = codes "slt"
op_name op.Sltu = codes "sltu"
op_name op.Xor = codes "xor"
op_name op.Srl = codes "srl"
op_name op.Sra = codes "sra"
op_name op.Or = codes "or"
op_name op.And = codes "and"
op_name op.Mul = codes "mul"
op_name op.Mulh = codes "mulh"
op_name op.Mulhsu = codes "mulhsu"
op_name op.Mulhu = codes "mulhu"
op_name op.Div = codes "div"
op_name op.Divu = codes "divu"
op_name op.Rem = codes "rem"
op_name op.Remu = codes "remu"
op_name op.Addiw = codes "addiw"
op_name op.Slliw = codes "slliw"
op_name op.Srliw = codes "srliw"
op_name op.Sraiw = codes "sraiw"
op_name op.Addw = codes "addw"
op_name op.Subw = codes "subw"
op_name op.Sllw = codes "sllw"
op_name op.Srlw = codes "srlw"
op_name op.Sraw = codes "sraw"
op_name op.Mulw = codes "mulw"
op_name op.Divw = codes "divw"
op_name op.Divuw = codes "divuw"
op_name op.Remw = codes "remw"
op_name op.Remuw = codes "remuw"

-- what a mnemonic is called
unfoldable pub name_of : Mnemonic → List ℕ
name_of (Table op) = op_name op
name_of Jal = codes "jal"
name_of Jalr = codes "jalr"
name_of Fence = codes "fence"
name_of Ecall = codes "ecall"
name_of Ebreak = codes "ebreak"

-- which operands follow an operation of the table
abbrev pub op_form : Op → Form
op_form op.Lui = form.Upper
op_form op.Auipc = form.Upper
op_form op.Beq = form.Branch
op_form op.Bne = form.Branch
op_form op.Blt = form.Branch
op_form op.Bge = form.Branch
op_form op.Bltu = form.Branch
op_form op.Bgeu = form.Branch
op_form op.Lb = form.Load
op_form op.Lh = form.Load
op_form op.Lw = form.Load
op_form op.Ld = form.Load
op_form op.Lbu = form.Load
op_form op.Lhu = form.Load
op_form op.Lwu = form.Load
op_form op.Sb = form.Save
op_form op.Sh = form.Save
op_form op.Sw = form.Save
op_form op.Sd = form.Save
op_form op.Addi = form.Imm
op_form op.Slti = form.Imm
op_form op.Sltiu = form.Imm
op_form op.Xori = form.Imm
op_form op.Ori = form.Imm
op_form op.Andi = form.Imm
op_form op.Slli = form.Shift
op_form op.Srli = form.Shift
op_form op.Srai = form.Shift
op_form op.Addiw = form.Imm
op_form op.Slliw = form.ShiftWord
op_form op.Srliw = form.ShiftWord
op_form op.Sraiw = form.ShiftWord
op_form _ = form.Three

-- which operands follow a mnemonic
abbrev pub form_of : Mnemonic → Form
form_of (Table op) = op_form op
form_of Jal = form.Jump
form_of Jalr = form.Imm
form_of Fence = form.Imm
form_of Ecall = form.Alone
form_of Ebreak = form.Alone

-- the mnemonic of an instruction
abbrev pub mnemonic_of : Instr → Mnemonic
mnemonic_of (instr.Upper op rd imm) = Table op
mnemonic_of (instr.Jal rd imm) = Jal
mnemonic_of (instr.Jalr rd rs1 imm) = Jalr
mnemonic_of (instr.Branch op rs1 rs2 imm) = Table op
mnemonic_of (instr.Load op rd rs1 imm) = Table op
mnemonic_of (instr.Save op rs1 rs2 imm) = Table op
mnemonic_of (instr.Imm op rd rs1 imm) = Table op
mnemonic_of (instr.Three op rd rs1 rs2) = Table op
mnemonic_of (instr.Fence rd rs1 imm) = Fence
mnemonic_of instr.Ecall = Ecall
mnemonic_of instr.Ebreak = Ebreak
