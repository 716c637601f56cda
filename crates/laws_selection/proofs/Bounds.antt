-- The word of an operation is one.
use Rattle.std.proofs.Common.{◌≡◌, ◌⊎◌, inl, inr, ℕ, zero, suc, ℤ, pos, negsuc, sym, subst, ◌-◌, ◌*◌, ◌/◌, ◌%◌, ◌^◌, ◌<◌, ◌≤◌, ◌==◌, Bool, true, false, refl, arith}
use Rattle.std.specs.Prelude.{if◌then◌else◌, bit_and, ◌*ℤ◌, int_div, int_rem, unsigned_abs}
use Rattle.std.proofs.Math.Nat.{mul-le-mul}
use Rattle.std.proofs.lemmas.Bool.Decides.{nat_tests}
use Rattle.std.proofs.lemmas.Int.{unsigned_abs-mul}
use Rattle.std.proofs.Math.IntN.{nat_abs, neg_ℤ}
use Rattle.std.specs.Int.{w64, cast_signed, cast_unsigned, from_bool, int_shr}
use Rattle.std.proofs.lemmas.Nat.{and_le_l, or_lt, xor_lt}
use Rattle.clu_wir.specs.declared.expression.WOp.{WOp}
use Rattle.clu_wir.specs.declared.expression.WOp.TheVariants as operation
use Rattle.clu_wir.specs.Value.{op_word}

truth_small : (b : Bool) → from_bool b < 2 ^ 64
truth_small true = omega arith
truth_small false = omega arith

-- by the size of a number
abs_small : (z : ℤ) → unsigned_abs z < 2 ^ 64 → cast_unsigned w64 z < 2 ^ 64
abs_small (pos n) h = omega arith
abs_small (negsuc n) h = omega arith

signed_abs : (a : ℕ) → a < 2 ^ 64 → unsigned_abs (cast_signed w64 a) ≤ 2 ^ 63
signed_abs a h = by (sign a h)
  where
    sign : (a : ℕ) → a < 2 ^ 64 → (a < 2 ^ 63) ⊎ (2 ^ 63 ≤ a)
    sign a h = grind arith

    by : (a < 2 ^ 63) ⊎ (2 ^ 63 ≤ a) → unsigned_abs (cast_signed w64 a) ≤ 2 ^ 63
    by (inl s) = grind (arith, nat_tests)
    by (inr s) = grind (arith, nat_tests)

divided_less : (a d : ℕ) → a / d ≤ a
divided_less a d = omega arith

rest_less : (a d : ℕ) → a % d ≤ a
rest_less a d = omega arith

shr_abs : (z : ℤ) (k : ℕ) → unsigned_abs (int_shr z k) ≤ unsigned_abs z
shr_abs (pos n) k = divided_less n (2 ^ k)
shr_abs (negsuc n) k = let less = divided_less n (2 ^ k) in omega arith

neg_abs : (m : ℕ) → unsigned_abs (neg_ℤ (pos m)) ≡ m
neg_abs zero = refl
neg_abs (suc m) = refl

quot_abs : (x y : ℤ) → unsigned_abs (int_div x y) ≤ unsigned_abs x
quot_abs (pos a) (pos b) = divided_less a b
quot_abs (pos a) (negsuc b) = subst (λ n. n ≤ a) (sym (neg_abs (a / suc b))) (divided_less a (suc b))
quot_abs (negsuc a) (pos b) = subst (λ n. n ≤ suc a) (sym (neg_abs (suc a / b))) (divided_less (suc a) b)
quot_abs (negsuc a) (negsuc b) = divided_less (suc a) (suc b)

rem_abs : (x y : ℤ) → unsigned_abs (int_rem x y) ≤ unsigned_abs x
rem_abs (pos a) y = rest_less a (nat_abs y)
rem_abs (negsuc a) y = subst (λ n. n ≤ suc a) (sym (neg_abs (suc a % nat_abs y))) (rest_less (suc a) (nat_abs y))

product_abs : (x y : ℤ) → unsigned_abs x ≤ 2 ^ 63 → unsigned_abs y ≤ 2 ^ 64 - 1 → unsigned_abs (x *ℤ y) ≤ 2 ^ 63 * (2 ^ 64 - 1)
product_abs x y p q = rw unsigned_abs-mul (mul-le-mul p q)

shift_abs : (z : ℤ) → unsigned_abs z ≤ 2 ^ 63 * (2 ^ 64 - 1) → unsigned_abs (int_shr z 64) ≤ 2 ^ 63
shift_abs (pos n) p = omega arith
shift_abs (negsuc n) p = omega arith

high_small : (x y : ℤ) → unsigned_abs x ≤ 2 ^ 63 → unsigned_abs y ≤ 2 ^ 64 - 1 → cast_unsigned w64 (int_shr (x *ℤ y) 64) < 2 ^ 64
high_small x y p q = let small = shift_abs (x *ℤ y) (product_abs x y p q) in abs_small (int_shr (x *ℤ y) 64) (omega arith)

less_small : (x z : ℤ) → unsigned_abs x ≤ 2 ^ 63 → unsigned_abs z ≤ unsigned_abs x → cast_unsigned w64 z < 2 ^ 64
less_small x z p q = abs_small z (omega arith)

and_small : (a b : ℕ) → a < 2 ^ 64 → bit_and a b < 2 ^ 64
and_small a b h = omega (arith, and_le_l a b)

over_small : (a d : ℕ) → a < 2 ^ 64 → a / d < 2 ^ 64
over_small a d h = let less : a / d ≤ a = omega arith in omega arith

product_small : (a b : ℕ) → a < 2 ^ 64 → b < 2 ^ 64 → a * b / 2 ^ 64 < 2 ^ 64
product_small a b p q = grind arith

rest_small : (a b : ℕ) → a < 2 ^ 64 → a % b < 2 ^ 64
rest_small a b h = let less : a % b ≤ a = omega arith in omega arith

either : (c : Bool) (x y : ℕ) → x < 2 ^ 64 → y < 2 ^ 64 → (if c then x else y) < 2 ^ 64
either true x y p q = p
either false x y p q = q

pub op_small : (o : WOp) (a b : ℕ) → a < 2 ^ 64 → b < 2 ^ 64 → op_word o a b < 2 ^ 64
op_small operation.Add a b p q = omega arith
op_small operation.Sub a b p q = omega arith
op_small operation.Sll a b p q = grind arith
op_small operation.Slt a b p q = truth_small _
op_small operation.Sltu a b p q = truth_small _
op_small operation.Xor a b p q = xor_lt 64 a b p q
op_small operation.Srl a b p q = over_small a (2 ^ (b % 64)) p
op_small operation.Sra a b p q = less_small (cast_signed w64 a) (int_shr (cast_signed w64 a) (b % 64)) (signed_abs a p) (shr_abs (cast_signed w64 a) (b % 64))
op_small operation.Or a b p q = or_lt 64 a b p q
op_small operation.And a b p q = and_small a b p
op_small operation.Mul a b p q = grind arith
op_small operation.Mulh a b p q = let small = signed_abs b q in high_small (cast_signed w64 a) (cast_signed w64 b) (signed_abs a p) (omega arith)
op_small operation.Mulhsu a b p q = high_small (cast_signed w64 a) (pos b) (signed_abs a p) (omega arith)
op_small operation.Mulhu a b p q = product_small a b p q
op_small operation.Div a b p q = either (b == 0) _ _ (omega arith) (less_small (cast_signed w64 a) (int_div (cast_signed w64 a) (cast_signed w64 b)) (signed_abs a p) (quot_abs (cast_signed w64 a) (cast_signed w64 b)))
op_small operation.Divu a b p q = either (b == 0) _ _ (omega arith) (over_small a b p)
op_small operation.Rem a b p q = either (b == 0) _ _ p (less_small (cast_signed w64 a) (int_rem (cast_signed w64 a) (cast_signed w64 b)) (signed_abs a p) (rem_abs (cast_signed w64 a) (cast_signed w64 b)))
op_small operation.Remu a b p q = either (b == 0) _ _ p (rest_small a b p)
op_small operation.Equal a b p q = truth_small _
