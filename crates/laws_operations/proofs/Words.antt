-- Words of ints.
use Rattle.std.proofs.Common.{◌≡◌, ℕ, suc, ◌+◌, ◌-◌, ◌*◌, ◌/◌, ◌%◌, ◌^◌, ◌<◌, ◌≤◌, Bool, true, false, refl, ap, ◌∙◌, arith, if◌then◌else◌, ◌==◌, ◌⊎◌, inl, inr, ⊎_elim, ℤ, pos, int_lt, bit_and, ltb, mod-lt, div-add-mod'}
use Rattle.std.specs.Int.{w64, cast_unsigned, from_bool}
use Rattle.std.proofs.lemmas.Int.{to_z_pos}
use Rattle.std.proofs.lemmas.Nat.{and_le_l, and_shr}
use Rattle.std.proofs.lemmas.Bool.{cases_lt}
use mir.ValLaws.{to_z-neg}
use lib.Arith.{digits_div, digits_mod}
use Rattle.clu_wir.specs.declared.expression.WOp.TheVariants as op
use Rattle.clu_wir.specs.Value.{op_word}

abbrev pub word : ℤ → ℕ
word z = cast_unsigned w64 z

never_less : (u : ℕ) → from_bool (ltb u 0) ≡ 0
never_less u = by (ltb u 0) refl
  where
    by : (t : Bool) → ltb u 0 ≡ t → from_bool t ≡ 0
    by true e = absurd (grind arith)
    by false e = refl

pub not_zero : (w : ℕ) → 0 < w → (w == 0) ≡ false
not_zero w l = by (w == 0) refl
  where
    by : (t : Bool) → (w == 0) ≡ t → t ≡ false
    by true e = absurd (grind arith)
    by false e = refl

pub by_some : {A : Type 0} (w : ℕ) (a b : A) → 0 < w → (if w == 0 then b else a) ≡ a
by_some w a b l = ap (λ t. if t then b else a) (not_zero w l)

pub slt_low : (u : ℕ) → u < 2 ^ 63 → op_word op.Slt u 0 ≡ 0
slt_low u l = ap (λ z. from_bool (int_lt z (pos 0))) (to_z_pos w64 u l) ∙ never_less u

pub slt_high : (k : ℕ) → k < 2 ^ 63 → op_word op.Slt (2 ^ 64 - suc k) 0 ≡ 1
slt_high k l = ap (λ z. from_bool (int_lt z (pos 0))) (to_z-neg w64 k l)

pub high_is : (u : ℕ) → 2 ^ 63 ≤ u → u < 2 ^ 64 → u ≡ 2 ^ 64 - suc (2 ^ 64 - 1 - u)
high_is u l m = omega (arith, l, m)

pub slt_above : (u : ℕ) → 2 ^ 63 ≤ u → u < 2 ^ 64 → op_word op.Slt u 0 ≡ 1
slt_above u l m = ap (λ v. op_word op.Slt v 0) (high_is u l m) ∙ slt_high (2 ^ 64 - 1 - u) (omega (arith, l, m))

one_of : (u : ℕ) → 2 ^ 63 ≤ u → u < 2 ^ 64 → u / 2 ^ 63 ≡ 1
one_of u l m = omega (arith, l, m)

pub and_above : (a b : ℕ) → 2 ^ 63 ≤ a → a < 2 ^ 64 → 2 ^ 63 ≤ b → b < 2 ^ 64 → (2 ^ 63 ≤ bit_and a b) × (bit_and a b < 2 ^ 64)
and_above a b la ma lb mb =
    let top : bit_and a b / 2 ^ 63 ≡ 1 = and_shr a b 63 ∙ (λ i. bit_and (one_of a la ma i) (one_of b lb mb i)) in
    (omega (arith, top), omega (arith, and_le_l a b, ma))

pub suc_div : (a d : ℕ) → 0 < d → ((suc a % d ≡ 0) × (suc a / d ≡ suc (a / d))) ⊎ ((0 < suc a % d) × (suc a / d ≡ a / d))
suc_div a d l = ⊎_elim
    (λ less. inr (let e : suc a ≡ a / d * d + suc (a % d) = omega (arith, div-add-mod' a d) in
    (omega (arith, ap (λ n. n % d) e ∙ digits_mod (a / d) less), ap (λ n. n / d) e ∙ digits_div (a / d) less)))
    (λ more. inl (let e : suc a ≡ suc (a / d) * d + 0 = omega (arith, div-add-mod' a d, mod-lt a l, more) in
    (ap (λ n. n % d) e ∙ digits_mod (suc (a / d)) l, ap (λ n. n / d) e ∙ digits_div (suc (a / d)) l)))
    (cases_lt (suc (a % d)) d)
