-- The fields of an instruction's word, and the immediates of the forms by their bits ("Immediate
-- Encoding Variants" in the RISC-V unprivileged specification, chapter RV32I).

use Rattle.std.specs.Prelude.{ℕ, suc, ℤ, pos, negsuc, ◌+◌, ◌-◌, ◌*◌, ◌/◌, ◌%◌, ◌^◌, nat_lt, if◌then◌else◌}
use Rattle.std.specs.Int.{w32, cast_signed}

-- the number in `count` bits of w, the lowest of them bit `at`
abbrev pub bits_of : ℕ → ℕ → ℕ → ℕ
bits_of w at count = w / 2 ^ at % 2 ^ count

-- a number of two's complement whose sign bit is worth `half`
abbrev pub sign_extended : ℕ → ℕ → ℤ
sign_extended half n = if nat_lt n half then pos n else negsuc (2 * half - suc n)

abbrev pub opcode_of : ℕ → ℕ
opcode_of w = bits_of w 0 7

abbrev pub rd_of : ℕ → ℕ
rd_of w = bits_of w 7 5

abbrev pub funct3_of : ℕ → ℕ
funct3_of w = bits_of w 12 3

abbrev pub rs1_of : ℕ → ℕ
rs1_of w = bits_of w 15 5

abbrev pub rs2_of : ℕ → ℕ
rs2_of w = bits_of w 20 5

abbrev pub funct7_of : ℕ → ℕ
funct7_of w = bits_of w 25 7

abbrev pub funct6_of : ℕ → ℕ
funct6_of w = bits_of w 26 6

abbrev pub i_imm : ℕ → ℤ
i_imm w = sign_extended (2 ^ 11) (bits_of w 20 12)

abbrev pub s_imm : ℕ → ℤ
s_imm w = sign_extended (2 ^ 11) (bits_of w 25 7 * 2 ^ 5 + bits_of w 7 5)

abbrev pub b_imm : ℕ → ℤ
b_imm w = sign_extended (2 ^ 12) (bits_of w 31 1 * 2 ^ 12 + bits_of w 7 1 * 2 ^ 11 + bits_of w 25 6 * 2 ^ 5 + bits_of w 8 4 * 2)

abbrev pub u_imm : ℕ → ℤ
u_imm w = cast_signed w32 (bits_of w 12 20 * 2 ^ 12)

abbrev pub j_imm : ℕ → ℤ
j_imm w = sign_extended (2 ^ 20) (bits_of w 31 1 * 2 ^ 20 + bits_of w 12 8 * 2 ^ 12 + bits_of w 20 1 * 2 ^ 11 + bits_of w 21 10 * 2)
