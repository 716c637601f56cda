-- The instructions of the operations on two words.
use Rattle.clu_wir.specs.declared.expression.WOp.{WOp}
use Rattle.clu_wir.specs.declared.expression.WOp.TheVariants as operation
use Rattle.rv_isa.specs.declared.op.Op.{Op}
use Rattle.rv_isa.specs.declared.op.Op.TheVariants as instruction

-- the instruction between registers whose result is the operation's; that of Equal is 0 exactly where the words are equal
abbrev pub instruction_of : WOp → Op
instruction_of operation.Add = instruction.Add
instruction_of operation.Sub = instruction.Sub
instruction_of operation.Sll = instruction.Sll
instruction_of operation.Slt = instruction.Slt
instruction_of operation.Sltu = instruction.Sltu
instruction_of operation.Xor = instruction.Xor
instruction_of operation.Srl = instruction.Srl
instruction_of operation.Sra = instruction.Sra
instruction_of operation.Or = instruction.Or
instruction_of operation.And = instruction.And
instruction_of operation.Mul = instruction.Mul
instruction_of operation.Mulh = instruction.Mulh
instruction_of operation.Mulhsu = instruction.Mulhsu
instruction_of operation.Mulhu = instruction.Mulhu
instruction_of operation.Div = instruction.Div
instruction_of operation.Divu = instruction.Divu
instruction_of operation.Rem = instruction.Rem
instruction_of operation.Remu = instruction.Remu
instruction_of operation.Equal = instruction.Sub
