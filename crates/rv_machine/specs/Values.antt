-- What the operations of RV64IM give, as numbers below 2 ^ 64: a register holds such a number, and the
-- two's complement number that it stands for is `signed` of it.
-- RISC-V unprivileged ISA, chapters "RV32I", "RV64I" and "M" (integer multiplication and division).
use Rattle.std.specs.Prelude.{ℕ, ◌+◌, ◌-◌, ◌*◌, ◌/◌, ◌%◌, ◌^◌, ℤ, pos, ◌*ℤ◌, int_div, int_rem, int_lt, int_le, Bool, true, false, not, ◌==◌, nat_lt, nat_le, if◌then◌else◌, bit_and, bit_or, bit_xor}
use Rattle.std.specs.Int.{cast_signed, cast_unsigned, int_shr, w32, w64}
use Rattle.rv_isa.specs.declared.op.Op.{Op}
use Rattle.rv_isa.specs.declared.op.Op.TheVariants as op

abbrev pub signed : ℕ → ℤ
signed n = cast_signed w64 n

abbrev pub unsigned : ℤ → ℕ
unsigned z = cast_unsigned w64 z

-- the low 32 bits, and the number that they stand for
abbrev pub low : ℕ → ℕ
low n = n % 2 ^ 32

abbrev pub low_signed : ℕ → ℤ
low_signed n = cast_signed w32 (low n)

-- 32 bits, extended by their sign to 64
abbrev pub extended : ℕ → ℕ
extended n = unsigned (cast_signed w32 n)

abbrev pub sum : ℕ → ℕ → ℕ
sum a b = (a + b) % 2 ^ 64

abbrev pub bit : Bool → ℕ
bit true = 1
bit false = 0

-- of LUI and AUIPC a is the pc and b the immediate; of the others a is rs1, and b is rs2 or the immediate
abbrev pub value_of : Op → ℕ → ℕ → ℕ
value_of op.Lui a b = b
value_of op.Auipc a b = sum a b
value_of op.Add a b = sum a b
value_of op.Addi a b = sum a b
value_of op.Sub a b = (a + 2 ^ 64 - b) % 2 ^ 64
value_of op.Slt a b = bit (int_lt (signed a) (signed b))
value_of op.Slti a b = bit (int_lt (signed a) (signed b))
value_of op.Sltu a b = bit (nat_lt a b)
value_of op.Sltiu a b = bit (nat_lt a b)
value_of op.Xor a b = bit_xor a b
value_of op.Xori a b = bit_xor a b
value_of op.Or a b = bit_or a b
value_of op.Ori a b = bit_or a b
value_of op.And a b = bit_and a b
value_of op.Andi a b = bit_and a b
value_of op.Sll a b = a * 2 ^ (b % 64) % 2 ^ 64
value_of op.Slli a b = a * 2 ^ (b % 64) % 2 ^ 64
value_of op.Srl a b = a / 2 ^ (b % 64)
value_of op.Srli a b = a / 2 ^ (b % 64)
value_of op.Sra a b = unsigned (int_shr (signed a) (b % 64))
value_of op.Srai a b = unsigned (int_shr (signed a) (b % 64))
value_of op.Addw a b = extended ((a + b) % 2 ^ 32)
value_of op.Addiw a b = extended ((a + b) % 2 ^ 32)
value_of op.Subw a b = extended ((a + 2 ^ 64 - b) % 2 ^ 32)
value_of op.Sllw a b = extended (a * 2 ^ (b % 32) % 2 ^ 32)
value_of op.Slliw a b = extended (a * 2 ^ (b % 32) % 2 ^ 32)
value_of op.Srlw a b = extended (low a / 2 ^ (b % 32))
value_of op.Srliw a b = extended (low a / 2 ^ (b % 32))
value_of op.Sraw a b = unsigned (int_shr (low_signed a) (b % 32))
value_of op.Sraiw a b = unsigned (int_shr (low_signed a) (b % 32))
value_of op.Mul a b = a * b % 2 ^ 64
value_of op.Mulh a b = unsigned (int_shr (signed a *ℤ signed b) 64)
value_of op.Mulhsu a b = unsigned (int_shr (signed a *ℤ pos b) 64)
value_of op.Mulhu a b = a * b / 2 ^ 64
value_of op.Div a b = if b == 0 then 2 ^ 64 - 1 else unsigned (int_div (signed a) (signed b))
value_of op.Divu a b = if b == 0 then 2 ^ 64 - 1 else a / b
value_of op.Rem a b = if b == 0 then a else unsigned (int_rem (signed a) (signed b))
value_of op.Remu a b = if b == 0 then a else a % b
value_of op.Mulw a b = extended (a * b % 2 ^ 32)
value_of op.Divw a b = if low b == 0 then 2 ^ 64 - 1 else extended (cast_unsigned w32 (int_div (low_signed a) (low_signed b)))
value_of op.Divuw a b = if low b == 0 then 2 ^ 64 - 1 else extended (low a / low b)
value_of op.Remw a b = if low b == 0 then extended (low a) else unsigned (int_rem (low_signed a) (low_signed b))
value_of op.Remuw a b = if low b == 0 then extended (low a) else extended (low a % low b)
value_of other a b = 0

-- whether a branch is taken, where a is rs1 and b is rs2
abbrev pub is_taken : Op → ℕ → ℕ → Bool
is_taken op.Beq a b = a == b
is_taken op.Bne a b = not (a == b)
is_taken op.Blt a b = int_lt (signed a) (signed b)
is_taken op.Bge a b = int_le (signed b) (signed a)
is_taken op.Bltu a b = nat_lt a b
is_taken op.Bgeu a b = nat_le b a
is_taken other a b = false
