-- Powers of which the exponent is large: only those of -1, 0 and 1 are ints.
use Rattle.std.proofs.Common.{◌≡◌, refl, ap, arith, rules}
use Rattle.std.specs.Prelude.{ℕ, zero, suc, ◌%◌, ◌^◌, ◌<◌, ◌≤◌, ◌==◌, ℤ, pos, negsuc, neg_ℤ, nat_abs, Bool, true, false, cond, FitsSigned}
use Rattle.std.specs.Int.{w64, int_pow}
use Rattle.std.proofs.Math.Pow.{pow_mono}
use Rattle.std.proofs.Math.Nat.{pow-le-pow_left, pow-suc}

one_power : (e : ℕ) → 1 ^ e ≡ 1
one_power zero = refl
one_power (suc e) = omega (arith, one_power e, pow-suc 1 e)

zero_power : (e : ℕ) → 0 < e → 0 ^ e ≡ 0
zero_power zero h = omega (arith, h)
zero_power (suc e) h = omega (arith, pow-suc 0 e)

-- a number above those of 64 bits, with either sign
too_large : (b : Bool) (m : ℕ) → 2 ^ 64 ≤ m → FitsSigned w64 (cond b (pos m) (neg_ℤ (pos m))) → ⊥
too_large true m h f = omega (arith, h, f.sfits)
too_large false zero h f = omega (arith, h)
too_large false (suc m) h f = omega (arith, h, f.sfits)

high : (a e : ℕ) → 2 ≤ a → 64 ≤ e → 2 ^ 64 ≤ a ^ e
high a e g h = omega (arith, pow-le-pow_left g e, pow_mono h)

pub large_power_fits_not : (z : ℤ) (e : ℕ) → 2 ≤ nat_abs z → 64 ≤ e → FitsSigned w64 (int_pow z e) → ⊥
large_power_fits_not (pos a) e g h f = too_large true (a ^ e) (high a e g h) f
large_power_fits_not (negsuc a) e g h f = too_large (e % 2 == 0) (suc a ^ e) (high (suc a) e g h) f

is_zero : (n : ℕ) → n ≡ 0 → (n == 0) ≡ true
is_zero n h = ap (λ m. m == 0) h

is_not_zero : (n : ℕ) → (n ≡ 0 → ⊥) → (n == 0) ≡ false
is_not_zero zero h = absurd (h refl)
is_not_zero (suc n) h = search rules

even_sign : (b : Bool) (m : ℕ) → m ≡ 1 → b ≡ true → cond b (pos m) (neg_ℤ (pos m)) ≡ pos 1
even_sign true m h even = ap pos h
even_sign false m h even = absurd (cc)

odd_sign : (b : Bool) (m : ℕ) → m ≡ 1 → b ≡ false → cond b (pos m) (neg_ℤ (pos m)) ≡ negsuc 0
odd_sign true m h odd = absurd (cc)
odd_sign false m h odd = ap (λ n. neg_ℤ (pos n)) h

pub even_small_power : (z : ℤ) (e : ℕ) → nat_abs z < 2 → 64 ≤ e → e % 2 ≡ 0 → int_pow z e ≡ pos (nat_abs z)
even_small_power (pos zero) e g h even = ap pos (zero_power e (omega (arith, h)))
even_small_power (pos (suc zero)) e g h even = ap pos (one_power e)
even_small_power (pos (suc (suc a))) e g h even = absurd (omega (arith, g))
even_small_power (negsuc zero) e g h even = even_sign (e % 2 == 0) (1 ^ e) (one_power e) (is_zero (e % 2) even)
even_small_power (negsuc (suc a)) e g h even = absurd (omega (arith, g))

pub odd_small_power : (z : ℤ) (e : ℕ) → nat_abs z < 2 → 64 ≤ e → (e % 2 ≡ 0 → ⊥) → int_pow z e ≡ z
odd_small_power (pos zero) e g h odd = ap pos (zero_power e (omega (arith, h)))
odd_small_power (pos (suc zero)) e g h odd = ap pos (one_power e)
odd_small_power (pos (suc (suc a))) e g h odd = absurd (omega (arith, g))
odd_small_power (negsuc zero) e g h odd = odd_sign (e % 2 == 0) (1 ^ e) (one_power e) (is_not_zero (e % 2) odd)
odd_small_power (negsuc (suc a)) e g h odd = absurd (omega (arith, g))
