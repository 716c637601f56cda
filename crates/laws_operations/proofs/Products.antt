-- Products of words are those of ints, and overflow is told exactly at the ends: the upper word is all sign just of an int.
use Rattle.std.proofs.Common.{◌≡◌, ℕ, zero, suc, ◌-◌, ◌*◌, ◌/◌, ◌%◌, ◌^◌, ◌<◌, ◌≤◌, Bool, true, false, refl, sym, ap, ◌∙◌, subst, arith, ◌==◌, ℤ, pos, negsuc, neg_ℤ, ◌*ℤ◌, mod-lt, nat_abs, unsigned_abs, ⊎_elim, mul-le-mul_left}
use Rattle.std.proofs.lemmas.Bool.{cases_lt}
use Rattle.std.specs.Int.{w64, cast_signed, cast_unsigned, from_bool, int_shr, int_wrap, int_rem_euclid}
use Rattle.std.proofs.lemmas.Int.{to_z-of_z, to_z_pos, of_z-to_z, wrapping_mul_is}
use mir.ValLaws.{to_z-neg}
use lib.Pow.{pow_pos}
use Rattle.clu_layout.specs.Places.{is_int}
use Rattle.clu_wir.specs.declared.expression.WOp.TheVariants as op
use Rattle.clu_wir.specs.declared.trap.Trap.TheVariants as trap
use Rattle.clu_wir.specs.Value.{Value, Gives, Raises, op_word, by_truth}
use Rattle.laws_operations.proofs.Orders.{equal_numbers}
use Rattle.laws_operations.proofs.Words.{word, high_is}
use Rattle.laws_operations.proofs.Results.{fits_of, less_of, not_less_of, FitsOr}
use Rattle.laws_operations.proofs.Sums.{same_or_over}

abbrev pub product_value : ℕ → ℕ → Value
product_value u v = same_or_over (op_word op.Mulh u v) (op_word op.Sra (op_word op.Mul u v) 63) (op_word op.Mul u v)

unequal : (a b made : ℕ) → (a ≡ b → ⊥) → same_or_over a b made ≡ Raises trap.Overflow
unequal a b made k = by (a == b) refl
  where
    by : (t : Bool) → (a == b) ≡ t → by_truth (from_bool (a == b)) (Gives made) (Raises trap.Overflow) ≡ Raises trap.Overflow
    by true e = absurd (k (equal_numbers a b e))
    by false e = ap (λ t. by_truth (from_bool t) (Gives made) (Raises trap.Overflow)) e

equal_tests : (a b made : ℕ) → a ≡ b → same_or_over a b made ≡ Gives made
equal_tests a b made e = by (a == b) refl
  where
    by : (t : Bool) → (a == b) ≡ t → by_truth (from_bool (a == b)) (Gives made) (Raises trap.Overflow) ≡ Gives made
    by true g = ap (λ t. by_truth (from_bool t) (Gives made) (Raises trap.Overflow)) g
    by false g = absurd (grind arith)

-- all bits are the sign
sign_low : (made : ℕ) → made < 2 ^ 63 → op_word op.Sra made 63 ≡ 0
sign_low made l = ap (λ z. cast_unsigned w64 (int_shr z 63)) (to_z_pos w64 made l) ∙ omega (arith, l)

sign_high : (made : ℕ) → 2 ^ 63 ≤ made → made < 2 ^ 64 → op_word op.Sra made 63 ≡ 2 ^ 64 - 1
sign_high made l m = ap (λ z. cast_unsigned w64 (int_shr z 63)) (ap (cast_signed w64) (high_is made l m) ∙ to_z-neg w64 (2 ^ 64 - 1 - made) (omega (arith, l, m))) ∙ by made l m
  where
    by : (made : ℕ) → 2 ^ 63 ≤ made → made < 2 ^ 64 → 2 ^ 64 - suc ((2 ^ 64 - 1 - made) / 2 ^ 63) ≡ 2 ^ 64 - 1
    by made l m = omega (arith, l, m)

-- the value, by what its upper word, its sign and itself are
at : (made high sign : ℕ) → op_word op.Sra made 63 ≡ sign → same_or_over high sign made ≡ same_or_over high (op_word op.Sra made 63) made
at made high sign e = ap (λ n. same_or_over high n made) (sym e)

pos_product : (n made high : ℕ) → made ≡ n % 2 ^ 64 → high ≡ n / 2 ^ 64 → n ≤ 2 ^ 126 → FitsOr (pos n) (same_or_over high (op_word op.Sra made 63) made)
pos_product n made high e g b = record {
  fits = λ h. let l = less_of n (2 ^ 63) h in let m : made ≡ n = omega (arith, e, l) in
      sym (at made high 0 (sign_low made (omega (arith, m, l)))) ∙ equal_tests high 0 made (omega (arith, g, l)) ∙ ap Gives m;
  over = λ h. let l = not_less_of n (2 ^ 63) h in ⊎_elim
      (λ low. sym (at made high 0 (sign_low made low)) ∙ unequal high 0 made (λ s. omega (arith, e, g, l, low, s)))
      (λ up. sym (at made high (2 ^ 64 - 1) (sign_high made up (omega (arith, e)))) ∙ unequal high (2 ^ 64 - 1) made (λ s. omega (arith, g, b, s)))
      (cases_lt made (2 ^ 63));
}

neg_product : (n made high : ℕ) → made ≡ 2 ^ 64 - 1 - n % 2 ^ 64 → high ≡ 2 ^ 64 - suc (n / 2 ^ 64) → n ≤ 2 ^ 126 → FitsOr (negsuc n) (same_or_over high (op_word op.Sra made 63) made)
neg_product n made high e g b = record {
  fits = λ h. let l = less_of n (2 ^ 63) h in let m : made ≡ 2 ^ 64 - suc n = omega (arith, e, l) in
      sym (at made high (2 ^ 64 - 1) (sign_high made (omega (arith, m, l)) (omega (arith, m, l)))) ∙ equal_tests high (2 ^ 64 - 1) made (omega (arith, g, l)) ∙ ap Gives m;
  over = λ h. let l = not_less_of n (2 ^ 63) h in ⊎_elim
      (λ low. sym (at made high 0 (sign_low made low)) ∙ unequal high 0 made (λ s. omega (arith, g, b, s)))
      (λ up. sym (at made high (2 ^ 64 - 1) (sign_high made up (omega (arith, e)))) ∙ unequal high (2 ^ 64 - 1) made (λ s. omega (arith, e, g, l, up, b, s)))
      (cases_lt made (2 ^ 63));
}

-- the lower word, without sign
abbrev low_part : ℤ → ℕ
low_part z = unsigned_abs (int_rem_euclid z (pos (2 ^ 64)))

low_below : (z : ℤ) → low_part z < 2 ^ 64
low_below (pos n) = omega arith
low_below (negsuc n) = omega arith

lower : (z : ℤ) (made : ℕ) → made < 2 ^ 64 → cast_signed w64 made ≡ int_wrap w64 z → made ≡ low_part z
unfolding int_wrap
lower z made l e = sym (of_z-to_z w64 made l) ∙ ap (cast_unsigned w64) e ∙ of_z-to_z w64 (low_part z) (low_below z)

of_parts : (z : ℤ) (made high : ℕ) → made ≡ low_part z → high ≡ word (int_shr z 64) → nat_abs z ≤ 2 ^ 126 → FitsOr z (same_or_over high (op_word op.Sra made 63) made)
of_parts (pos n) made high e g b = pos_product n made high e g b
of_parts (negsuc n) made high e g b = neg_product n made high e g (omega (arith, b))

times : (a b : ℕ) → a ≤ 2 ^ 63 → b ≤ 2 ^ 63 → a * b ≤ 2 ^ 126
times a b l m = omega (arith, l, mul-le-mul_left a m)

size_neg : (n : ℕ) → nat_abs (neg_ℤ (pos n)) ≡ n
size_neg zero = refl
size_neg (suc n) = refl

size : (x y : ℤ) → is_int x ≡ true → is_int y ≡ true → nat_abs (x *ℤ y) ≤ 2 ^ 126
size (pos a) (pos b) p q = times a b (omega (arith, less_of a (2 ^ 63) p)) (omega (arith, less_of b (2 ^ 63) q))
size (pos a) (negsuc b) p q = subst (λ n. n ≤ 2 ^ 126) (sym (size_neg (a * suc b))) (times a (suc b) (omega (arith, less_of a (2 ^ 63) p)) (omega (arith, less_of b (2 ^ 63) q)))
size (negsuc a) (pos b) p q = subst (λ n. n ≤ 2 ^ 126) (sym (size_neg (suc a * b))) (times (suc a) b (omega (arith, less_of a (2 ^ 63) p)) (omega (arith, less_of b (2 ^ 63) q)))
size (negsuc a) (negsuc b) p q = times (suc a) (suc b) (omega (arith, less_of a (2 ^ 63) p)) (omega (arith, less_of b (2 ^ 63) q))

pub mul_right : (x y : ℤ) → is_int x ≡ true → is_int y ≡ true → FitsOr (x *ℤ y) (product_value (word x) (word y))
mul_right x y p q = of_parts (x *ℤ y) (op_word op.Mul (word x) (word y)) (op_word op.Mulh (word x) (word y))
    (lower (x *ℤ y) (op_word op.Mul (word x) (word y)) (mod-lt (word x * word y) (pow_pos 64)) (wrapping_mul_is w64 x y (fits_of x p) (fits_of y q)))
    (λ i. word (int_shr (to_z-of_z w64 x (fits_of x p) i *ℤ to_z-of_z w64 y (fits_of y q) i) 64))
    (size x y p q)
