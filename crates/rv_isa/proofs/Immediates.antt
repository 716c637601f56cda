-- An immediate is the number that its bits in a word make, and has those bits.

use Rattle.std.proofs.Common.{◌≡◌, ℕ, ℤ, pos, negsuc, ◌+◌, ◌*◌, ◌%◌, ◌^◌, ◌<◌, arith}
use Rattle.std.proofs.lemmas.Int.{ints}
use Rattle.std.specs.Int.{w32, cast_unsigned, cast_signed}
use Rattle.rv_isa.specs.Fields.{bits_of, sign_extended, i_imm, s_imm, b_imm, u_imm, j_imm}
use Rattle.rv_isa.specs.Valid.{IsWithin, IsDistance, IsUpper}

-- n in two's complement, with its sign bit worth `half`
record Extends (half n : ℕ) : Type 0 where
  within : IsWithin half (sign_extended half n)
  same : cast_unsigned w32 (sign_extended half n) % (2 * half) ≡ n

extends_12 : (n : ℕ) → n < 2 ^ 12 → Extends (2 ^ 11) n
extends_12 n h = record { within = grind (arith, ints); same = grind (arith, ints) }

extends_13 : (n : ℕ) → n < 2 ^ 13 → Extends (2 ^ 12) n
extends_13 n h = record { within = grind (arith, ints); same = grind (arith, ints) }

extends_21 : (n : ℕ) → n < 2 ^ 21 → Extends (2 ^ 20) n
extends_21 n h = record { within = grind (arith, ints); same = grind (arith, ints) }

-- the immediate of a word, with the bits that the word has for it

pub record IsI (w : ℕ) : Type 0 where
  pub within : IsWithin (2 ^ 11) (i_imm w)
  pub low : bits_of (cast_unsigned w32 (i_imm w)) 0 12 ≡ bits_of w 20 12

pub i_of : (w : ℕ) → IsI w
i_of w =
    let e = extends_12 (bits_of w 20 12) (omega arith) in
    record { within = e.within; low = omega arith }

pub record IsS (w : ℕ) : Type 0 where
  pub within : IsWithin (2 ^ 11) (s_imm w)
  pub low : bits_of (cast_unsigned w32 (s_imm w)) 0 5 ≡ bits_of w 7 5
  pub high : bits_of (cast_unsigned w32 (s_imm w)) 5 7 ≡ bits_of w 25 7

pub s_of : (w : ℕ) → IsS w
s_of w =
    let e = extends_12 (bits_of w 25 7 * 2 ^ 5 + bits_of w 7 5) (omega arith) in
    record { within = e.within; low = omega arith; high = omega arith }

pub record IsB (w : ℕ) : Type 0 where
  pub distance : IsDistance (2 ^ 12) (b_imm w)
  pub bit_11 : bits_of (cast_unsigned w32 (b_imm w)) 11 1 ≡ bits_of w 7 1
  pub low : bits_of (cast_unsigned w32 (b_imm w)) 1 4 ≡ bits_of w 8 4
  pub high : bits_of (cast_unsigned w32 (b_imm w)) 5 6 ≡ bits_of w 25 6
  pub bit_12 : bits_of (cast_unsigned w32 (b_imm w)) 12 1 ≡ bits_of w 31 1

pub b_of : (w : ℕ) → IsB w
b_of w =
    let e = extends_13 (bits_of w 31 1 * 2 ^ 12 + bits_of w 7 1 * 2 ^ 11 + bits_of w 25 6 * 2 ^ 5 + bits_of w 8 4 * 2) (omega arith) in
    record { distance = (e.within, omega arith); bit_11 = omega arith; low = omega arith; high = omega arith; bit_12 = omega arith }

pub record IsU (w : ℕ) : Type 0 where
  pub upper : IsUpper (u_imm w)
  pub high : bits_of (cast_unsigned w32 (u_imm w)) 12 20 ≡ bits_of w 12 20

pub u_of : (w : ℕ) → IsU w
u_of w = record { upper = grind (arith, ints); high = grind (arith, ints) }

pub record IsJ (w : ℕ) : Type 0 where
  pub distance : IsDistance (2 ^ 20) (j_imm w)
  pub middle : bits_of (cast_unsigned w32 (j_imm w)) 12 8 ≡ bits_of w 12 8
  pub bit_11 : bits_of (cast_unsigned w32 (j_imm w)) 11 1 ≡ bits_of w 20 1
  pub low : bits_of (cast_unsigned w32 (j_imm w)) 1 10 ≡ bits_of w 21 10
  pub bit_20 : bits_of (cast_unsigned w32 (j_imm w)) 20 1 ≡ bits_of w 31 1

pub j_of : (w : ℕ) → IsJ w
j_of w =
    let e = extends_21 (bits_of w 31 1 * 2 ^ 20 + bits_of w 12 8 * 2 ^ 12 + bits_of w 20 1 * 2 ^ 11 + bits_of w 21 10 * 2) (omega arith) in
    record { distance = (e.within, omega arith); middle = omega arith; bit_11 = omega arith; low = omega arith; bit_20 = omega arith }

-- an immediate from its bits

pub shortened_12 : (z : ℤ) → IsWithin (2 ^ 11) z → sign_extended (2 ^ 11) (cast_unsigned w32 z % 2 ^ 12) ≡ z
shortened_12 (pos n) h = grind (arith, ints)
shortened_12 (negsuc n) h = grind (arith, ints)

pub shortened_13 : (z : ℤ) → IsWithin (2 ^ 12) z → sign_extended (2 ^ 12) (cast_unsigned w32 z % 2 ^ 13) ≡ z
shortened_13 (pos n) h = grind (arith, ints)
shortened_13 (negsuc n) h = grind (arith, ints)

pub shortened_21 : (z : ℤ) → IsWithin (2 ^ 20) z → sign_extended (2 ^ 20) (cast_unsigned w32 z % 2 ^ 21) ≡ z
shortened_21 (pos n) h = grind (arith, ints)
shortened_21 (negsuc n) h = grind (arith, ints)

pub upper_bits : (z : ℤ) → IsUpper z → cast_signed w32 (bits_of (cast_unsigned w32 z) 12 20 * 2 ^ 12) ≡ z
upper_bits (pos n) h = grind (arith, ints)
upper_bits (negsuc n) h = grind (arith, ints)
