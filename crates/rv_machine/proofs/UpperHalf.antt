-- The upper 64 bits of a product of two numbers below 2 ^ 64 in size, computed with 128 bits.
use Rattle.std.proofs.Common.{◌≡◌, ℕ, ◌-◌, ◌*◌, ◌^◌, ◌<◌, ◌≤◌, ℤ, pos, negsuc, ◌*ℤ◌, refl, arith, w64, FitsSigned, to_z, of_z}
use Rattle.std.specs.Prelude.{unsigned_abs}
use Rattle.std.specs.Int.{int_shr, w128}
use lib.Signed.{mag}
use Rattle.rv_machine.specs.Values.{signed, unsigned}
use Rattle.std.proofs.Math.Nat.{mul-le-mul}
use Rattle.std.proofs.lemmas.Int.{to_z-of_z, to_z_pos, unsigned_abs-mul, fits_signed_from_abs}

-- what is left of z after a pass through w64 or w128
abbrev pub short : ℤ → ℤ
short z = to_z w64 (of_z w64 z)

abbrev pub long : ℤ → ℤ
long z = to_z w128 (of_z w128 z)

-- the greatest size of a product
abbrev pub greatest : ℕ
greatest = 2 ^ 63 * (2 ^ 64 - 1)

product_size : (x y : ℤ) → unsigned_abs x ≤ 2 ^ 63 → unsigned_abs y ≤ 2 ^ 64 - 1 → unsigned_abs (x *ℤ y) ≤ greatest
product_size x y p q = rw unsigned_abs-mul (mul-le-mul p q)

shift_size : (z : ℤ) → unsigned_abs z ≤ greatest → unsigned_abs (int_shr z 64) ≤ 2 ^ 63
shift_size (pos n) p = omega arith
shift_size (negsuc n) p = omega arith

shift_fits : (z : ℤ) → unsigned_abs z ≤ greatest → FitsSigned w64 (int_shr z 64)
shift_fits (pos n) p = record { sfits = omega arith }
shift_fits (negsuc n) p = record { sfits = omega arith }

pub upper_half : (x y : ℤ) → unsigned_abs x ≤ 2 ^ 63 → unsigned_abs y ≤ 2 ^ 64 - 1 → of_z w64 (short (long (int_shr (long (x *ℤ y)) 64))) ≡ of_z w64 (int_shr (x *ℤ y) 64)
upper_half x y p q =
    let bound = product_size x y p q in
    let fits : FitsSigned w128 (x *ℤ y) = fits_signed_from_abs w128 (x *ℤ y) (omega arith) in
    let wide : FitsSigned w128 (int_shr (x *ℤ y) 64) = fits_signed_from_abs w128 (int_shr (x *ℤ y) 64) (omega (arith, shift_size (x *ℤ y) bound)) in
    rw (to_z-of_z w128 (x *ℤ y) fits, to_z-of_z w128 (int_shr (x *ℤ y) 64) wide, to_z-of_z w64 (int_shr (x *ℤ y) 64) (shift_fits (x *ℤ y) bound)) refl

-- a number of 64 bits passes through unchanged
widened : (x : ℤ) → mag x < 2 ^ 63 → long (short x) ≡ x
widened x p =
    let near : FitsSigned w64 x = record { sfits = p } in
    let far : FitsSigned w128 x = record { sfits = omega arith } in
    rw (to_z-of_z w64 x near) (to_z-of_z w128 x far)

size_of : (x : ℤ) → mag x < 2 ^ 63 → unsigned_abs x ≤ 2 ^ 63
size_of (pos n) p = omega arith
size_of (negsuc n) p = omega arith

size_below : (x : ℤ) → mag x < 2 ^ 63 → unsigned_abs x ≤ 2 ^ 64 - 1
size_below x p = omega (arith, size_of x p)

pub mulh_is : (a b r : ℕ) (x y : ℤ) → mag x < 2 ^ 63 → mag y < 2 ^ 63 → x ≡ signed a → y ≡ signed b → r ≡ of_z w64 (short (long (int_shr (long (long (short x) *ℤ long (short y))) 64))) → r ≡ unsigned (int_shr (signed a *ℤ signed b) 64)
mulh_is a b r x y p q e f h = rw (← e, ← f, h, widened x p, widened y q) (upper_half x y (size_of x p) (size_below y q))

pub mulhsu_is : (a b r : ℕ) (x : ℤ) → mag x < 2 ^ 63 → b < 2 ^ 64 → x ≡ signed a → r ≡ of_z w64 (short (long (int_shr (long (long (short x) *ℤ to_z w128 b)) 64))) → r ≡ unsigned (int_shr (signed a *ℤ pos b) 64)
mulhsu_is a b r x p q e h = rw (← e, h, widened x p, to_z_pos w128 b (omega arith)) (upper_half x (pos b) (size_of x p) (omega arith))
