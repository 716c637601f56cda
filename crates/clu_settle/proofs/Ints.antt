-- What clu_fold gives for ints is what the operations of int give.
use Rattle.std.proofs.Common.{◌≡◌, ◌∙◌, ℕ, zero, suc, ◌/◌, ◌^◌, ◌<◌, ◌≤◌, ℤ, pos, negsuc, Bool, true, false, cond, not, ◌&&◌, Option, Some, None, refl, ap, sym, arith}
use Rattle.std.specs.Prelude.{◌+ℤ◌, ◌-ℤ◌, ◌*ℤ◌, neg_ℤ, nat_abs, FitsSigned, SomeIff, int_div}
use Rattle.std.specs.Int.{w64, CanDivide, IsNonZero, IsNonNegative, is_negative, int_div_euclid, int_rem_euclid, int_pow}
use Rattle.std.specs.Ordering.{int_cmp}
use Rattle.std.proofs.Math.Nat.{div-le_self}
use Rattle.std.proofs.lemmas.Nat.{div_below}
use Rattle.std.proofs.lemmas.Bool.{true≢false, ltb-true, lt-ltb, le-ltb, ne_eqb, and_parts, and_from}
use Rattle.clu_base.specs.declared.constants.Const.{Const}
use Rattle.clu_base.specs.declared.constants.Const.TheVariants as constant
use Rattle.clu_types.specs.CluType.{int_type}
use Rattle.clu_builtin.specs.declared.names.Signal.TheVariants as signal
use Rattle.clu_builtin.specs.Operation.{one}
use Rattle.clu_syntax.specs.declared.words.Operator.{Operator}
use Rattle.clu_syntax.specs.declared.words.Operator.TheVariants as op
use Rattle.clu_syntax.specs.declared.words.Sign.TheVariants as sign
use Rattle.clu_fold.specs.Folding.{IsInt, IsIntRow}
use Rattle.clu_layout.specs.Places.{is_int, is_zero}
use Rattle.clu_layout.specs.Actions.{signals_if, gives_int, counts, and_then}
use Rattle.clu_layout.specs.Primitive.{gives_results, done_in}
use Rattle.clu_layout.specs.Computing.{computing}
use Rattle.clu_meaning.specs.Constants.{sugar, folded, prefixed, given_by, no_world}
use Rattle.clu_settle.specs.Operators.{folded_by}
use Rattle.clu_settle.proofs.Operations.{bool_of, le_of, ge_of, gt_of, lt_of}

int_fits : (n : ℤ) → is_int n ≡ true → FitsSigned w64 n
int_fits (pos n) e = record { sfits = ltb-true n (2 ^ 63) e }
int_fits (negsuc n) e = record { sfits = ltb-true n (2 ^ 63) e }

int_is : (n : ℤ) → FitsSigned w64 n → is_int n ≡ true
int_is (pos n) f = lt-ltb n (2 ^ 63) f.sfits
int_is (negsuc n) f = lt-ltb n (2 ^ 63) f.sfits

-- ---- what is there exactly if a test holds

as_tested : {X : Type 0} (b : Bool) (P : Type 0) (r : Option X) (v : X) → (b ≡ true → P) → (P → b ≡ true) → SomeIff r P v → r ≡ cond b (Some v) None
as_tested true P None v there back h = absurd (h (there refl))
as_tested true P (Some x) v there back h = ap Some h.1
as_tested false P None v there back h = refl
as_tested false P (Some x) v there back h = absurd (true≢false (sym (back h.0)))

as_int : (n : ℤ) (r : Option Const) → IsInt n r → r ≡ cond (is_int n) (Some (constant.Int n)) None
as_int n r h = as_tested (is_int n) (FitsSigned w64 n) r (constant.Int n) (int_fits n) (int_is n) h

-- ---- what an operation gives that makes tests first

given_if_int : (b : Bool) (n : ℤ) → given_by (done_in no_world (counts 1 (and_then (signals_if signal.Overflow (not b) (gives_int n)) (gives_results (one int_type))))) ≡ cond b (Some (constant.Int n)) None
unfolding computing
given_if_int true n = refl
given_if_int false n = refl

given_quotient : (z b : Bool) (n : ℤ) → given_by (done_in no_world (counts 1 (and_then (signals_if signal.ZeroDivide z (signals_if signal.Overflow (not b) (gives_int n))) (gives_results (one int_type))))) ≡ cond (not z && b) (Some (constant.Int n)) None
unfolding computing
given_quotient true b n = refl
given_quotient false true n = refl
given_quotient false false n = refl

given_remainder : (z : Bool) (n : ℤ) → given_by (done_in no_world (counts 1 (and_then (signals_if signal.ZeroDivide z (gives_int n)) (gives_results (one int_type))))) ≡ cond (not z) (Some (constant.Int n)) None
unfolding computing
given_remainder true n = refl
given_remainder false n = refl

given_power : (g b : Bool) (n : ℤ) → given_by (done_in no_world (counts 1 (and_then (counts 64 (signals_if signal.NegativeExponent g (signals_if signal.Overflow (not b) (gives_int n)))) (gives_results (one int_type))))) ≡ cond (not g && b) (Some (constant.Int n)) None
unfolding computing
given_power true b n = refl
given_power false true n = refl
given_power false false n = refl

-- ---- division

not_zero : (y : ℤ) → FitsSigned w64 y → not (is_zero y) ≡ true → IsNonZero w64 y
not_zero (pos zero) f e = absurd (true≢false (sym e))
not_zero (pos (suc n)) f e = omega arith
not_zero (negsuc n) f e = omega (arith, f.sfits)

zero_not : (y : ℤ) → IsNonZero w64 y → not (is_zero y) ≡ true
zero_not (pos zero) l = absurd (omega (arith, l))
zero_not (pos (suc n)) l = ap not (ne_eqb (suc n) 0 (λ e. omega (arith, e)))
zero_not (negsuc n) l = refl

opposite_fits : (m : ℕ) → m ≤ 2 ^ 63 → FitsSigned w64 (neg_ℤ (pos m))
opposite_fits zero l = record { sfits = omega arith }
opposite_fits (suc m) l = record { sfits = omega (arith, l) }

half : (a c : ℕ) → a ≤ 2 ^ 63 → a / suc (suc c) < 2 ^ 63
half a c l = div_below a (suc (suc c)) (2 ^ 63) (omega arith) (omega (arith, l))

-- the quotients of the two roundings fit both or neither
cut_fits : (x y : ℤ) → FitsSigned w64 x → FitsSigned w64 (int_div_euclid x y) → FitsSigned w64 (int_div x y)
cut_fits (pos a) (pos b) f g = g
cut_fits (pos a) (negsuc b) f g = g
cut_fits (negsuc a) (pos b) f g =
    let less : suc a / b ≤ suc a = div-le_self (suc a) b in
    opposite_fits (suc a / b) (omega (arith, less, f.sfits))
cut_fits (negsuc a) (negsuc zero) f g = record { sfits = omega (arith, g.sfits) }
cut_fits (negsuc a) (negsuc (suc c)) f g = record { sfits = half (suc a) c (omega (arith, f.sfits)) }

rounded_fits : (x y : ℤ) → FitsSigned w64 x → FitsSigned w64 (int_div x y) → FitsSigned w64 (int_div_euclid x y)
rounded_fits (pos a) (pos b) f g = g
rounded_fits (pos a) (negsuc b) f g = g
rounded_fits (negsuc a) (pos b) f g =
    let less : a / b ≤ a = div-le_self a b in
    record { sfits = omega (arith, less, f.sfits) }
rounded_fits (negsuc a) (negsuc zero) f g = record { sfits = omega (arith, g.sfits) }
rounded_fits (negsuc a) (negsuc (suc c)) f g =
    let less : a / suc (suc c) < 2 ^ 62 = div_below a (suc (suc c)) (2 ^ 62) (omega arith) (omega (arith, f.sfits)) in
    record { sfits = omega (arith, less) }

can_divide : (x y : ℤ) → FitsSigned w64 x → FitsSigned w64 y → (not (is_zero y) && is_int (int_div_euclid x y)) ≡ true → CanDivide w64 x y
can_divide x y f g e =
    let parts = and_parts (not (is_zero y)) (is_int (int_div_euclid x y)) e in
    (not_zero y g parts.0, cut_fits x y f (int_fits (int_div_euclid x y) parts.1))

divides : (x y : ℤ) → FitsSigned w64 x → CanDivide w64 x y → (not (is_zero y) && is_int (int_div_euclid x y)) ≡ true
divides x y f can = and_from (not (is_zero y)) (is_int (int_div_euclid x y)) (zero_not y can.0) (int_is (int_div_euclid x y) (rounded_fits x y f can.1))

-- ---- powers

no_sign : (y : ℤ) → not (is_negative y) ≡ true → IsNonNegative y
no_sign (pos n) e = tt
no_sign (negsuc n) e = absurd (true≢false (sym e))

sign_not : (y : ℤ) → IsNonNegative y → not (is_negative y) ≡ true
sign_not (pos n) s = ap not (le-ltb n 0 (omega arith))
sign_not (negsuc n) s = absurd s

-- ---- two ints

pub of_ints : (o : Operator) (x y : ℤ) (r : Option Const) → FitsSigned w64 x → FitsSigned w64 y → IsIntRow (folded_by o) x y r → r ≡ folded (sugar o) (constant.Int x) (constant.Int y)
unfolding computing
of_ints op.Add x y r f g h = as_int (x +ℤ y) r h ∙ sym (given_if_int (is_int (x +ℤ y)) (x +ℤ y))
of_ints op.Subtract x y r f g h = as_int (x -ℤ y) r h ∙ sym (given_if_int (is_int (x -ℤ y)) (x -ℤ y))
of_ints op.Multiply x y r f g h = as_int (x *ℤ y) r h ∙ sym (given_if_int (is_int (x *ℤ y)) (x *ℤ y))
of_ints op.Divide x y r f g h =
    as_tested (not (is_zero y) && is_int (int_div_euclid x y)) (CanDivide w64 x y) r (constant.Int (int_div_euclid x y)) (can_divide x y f g) (divides x y f) h
    ∙ sym (given_quotient (is_zero y) (is_int (int_div_euclid x y)) (int_div_euclid x y))
of_ints op.Remainder x y r f g h =
    as_tested (not (is_zero y)) (IsNonZero w64 y) r (constant.Int (int_rem_euclid x y)) (not_zero y g) (zero_not y) h
    ∙ sym (given_remainder (is_zero y) (int_rem_euclid x y))
of_ints op.Power x y r f g h =
    as_tested (not (is_negative y) && is_int (int_pow x (nat_abs y))) (IsNonNegative y × FitsSigned w64 (int_pow x (nat_abs y))) r (constant.Int (int_pow x (nat_abs y)))
    (λ e. let parts = and_parts (not (is_negative y)) (is_int (int_pow x (nat_abs y))) e in (no_sign y parts.0, int_fits (int_pow x (nat_abs y)) parts.1))
    (λ p. and_from (not (is_negative y)) (is_int (int_pow x (nat_abs y))) (sign_not y p.0) (int_is (int_pow x (nat_abs y)) p.1)) h
    ∙ sym (given_power (is_negative y) (is_int (int_pow x (nat_abs y))) (int_pow x (nat_abs y)))
of_ints op.AtMost x y r f g h = h ∙ bool_of (le_of (int_cmp x y))
of_ints op.AtLeast x y r f g h = h ∙ bool_of (ge_of (int_cmp x y))
of_ints op.NotAtMost x y r f g h = h ∙ bool_of (gt_of (int_cmp x y))
of_ints op.NotAtLeast x y r f g h = h ∙ bool_of (lt_of (int_cmp x y))
of_ints _ x y r f g h = h

-- ---- one int

pub of_opposite : (x : ℤ) (r : Option Const) → IsInt (neg_ℤ x) r → r ≡ prefixed sign.Minus (constant.Int x)
unfolding computing
of_opposite x r h = as_int (neg_ℤ x) r h ∙ sym (given_if_int (is_int (neg_ℤ x)) (neg_ℤ x))
