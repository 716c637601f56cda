-- Operations on words that are in registers or known.
use Rattle.std.specs.Prelude.{ℤ, pos, negsuc, ◌&&◌, if◌then◌else◌, [], ◌∷◌, Option, Some, None, int_lt, int_le}
use Rattle.std.specs.Int.{w64, cast_signed, int_bit_and, int_wrapping_neg}
use Rattle.std.specs.Ordering.{int_eq}
use Rattle.clu_wir.specs.declared.expression.WOp.{WOp}
use Rattle.clu_wir.specs.declared.expression.WOp.TheVariants as operation
use Rattle.rv_isa.specs.declared.op.Op.{Op}
use Rattle.rv_isa.specs.declared.op.Op.TheVariants as op
use Rattle.rv_select.specs.declared.operand.Operand.{Operand}
use Rattle.rv_select.specs.declared.operand.Operand.TheVariants.{At, Known}
use Rattle.rv_select.specs.declared.operand.Scope.{Scope}
use Rattle.rv_select.specs.declared.register.Register.{Register}
use Rattle.rv_select.specs.Operands.{free, keeping, register_of, register_onto, taking}
use Rattle.rv_select.specs.Operations.{instruction_of}
use Rattle.rv_select.specs.Written.{Onto, imm_onto, in_turn, three_onto}

-- a number that an immediate holds
abbrev pub small : ℤ → Option ℤ
small number = if int_le (negsuc 2047) number && int_lt number (pos 2048) then Some number else None

abbrev pub with_op : Op → Option ℤ → Option (Op × ℤ)
with_op o None = None
with_op o (Some number) = Some (o, number)

abbrev pub numbered : Op → ℤ → Option (Op × ℤ)
numbered o number = with_op o (small number)

abbrev pub shift : ℤ → ℤ
shift number = int_bit_and w64 number (pos 63)

-- the instruction with a number that does an operation with a known right word; of Equal the difference
abbrev pub with_number : WOp → ℤ → Option (Op × ℤ)
with_number operation.Add n = numbered op.Addi n
with_number operation.Sub n = numbered op.Addi (int_wrapping_neg w64 n)
with_number operation.Equal n = numbered op.Addi (int_wrapping_neg w64 n)
with_number operation.Slt n = numbered op.Slti n
with_number operation.Sltu n = numbered op.Sltiu n
with_number operation.Xor n = numbered op.Xori n
with_number operation.Or n = numbered op.Ori n
with_number operation.And n = numbered op.Andi n
with_number operation.Sll n = numbered op.Slli (shift n)
with_number operation.Srl n = numbered op.Srli (shift n)
with_number operation.Sra n = numbered op.Srai (shift n)
with_number _ n = None

abbrev pub known_number : WOp → Operand → Option (Op × ℤ)
known_number o (At r) = None
known_number o (Known word) = with_number o (cast_signed w64 word)

-- words are equal where the difference is 0
abbrev pub told_onto : WOp → Register → Onto
told_onto operation.Equal to w = imm_onto op.Sltiu to to (pos 1) w
told_onto _ to w = w

abbrev pub equal_number_onto : Register → (Op × ℤ) → Register → Onto
equal_number_onto left n to w =
    if int_eq n.1 (pos 0) then imm_onto op.Sltiu to left (pos 1) w
    else in_turn (imm_onto n.0 to left n.1 ∷ imm_onto op.Sltiu to to (pos 1) ∷ []) w

abbrev pub by_number_onto : WOp → Register → (Op × ℤ) → Register → Onto
by_number_onto operation.Equal left n to w = equal_number_onto left n to w
by_number_onto _ left n to w = imm_onto n.0 to left n.1 w

-- registers that hold two words
abbrev pub left_at : Operand → Operand → Scope → Register
left_at left right s = register_of left (free (keeping right s))

abbrev pub beside_left : Operand → Operand → Scope → Register
beside_left left right s = free (keeping (At (left_at left right s)) s)

abbrev pub right_at : Operand → Operand → Scope → Register
right_at left right s = register_of right (beside_left left right s)

abbrev pub registers_onto : Operand → Operand → Scope → Onto
registers_onto left right s =
    in_turn
    (taking (keeping right s) ∷ register_onto left (free (keeping right s)) ∷ taking (keeping (At (left_at left right s)) s)
    ∷ register_onto right (beside_left left right s) ∷ [])

abbrev pub by_registers_onto : WOp → Operand → Operand → Scope → Onto
by_registers_onto o left right s =
    in_turn
    (registers_onto left right s ∷ three_onto (instruction_of o) (free s) (left_at left right s) (right_at left right s)
    ∷ told_onto o (free s) ∷ [])

abbrev pub combined_by : WOp → Operand → Operand → Scope → Option (Op × ℤ) → Onto
combined_by o left right s None = by_registers_onto o left right s
combined_by o left right s (Some n) = in_turn (register_onto left (free s) ∷ by_number_onto o (register_of left (free s)) n (free s) ∷ [])

unfoldable pub combined_onto : WOp → Operand → Operand → Scope → Onto
combined_onto o left right s = in_turn (taking s ∷ combined_by o left right s (known_number o right) ∷ [])

abbrev pub combined_at : Scope → Operand
combined_at s = At (free s)
