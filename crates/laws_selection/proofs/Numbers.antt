-- The parts of distances.
use Rattle.std.proofs.Common.{◌≡◌, ◌∙◌, ◌⊎◌, inl, inr, ℕ, ℤ, pos, negsuc, ◌+◌, ◌-◌, ◌*◌, ◌%◌, ◌^◌, ◌<◌, ◌≤◌, true, refl, ap, ap₂, sym, arith}
use Rattle.std.specs.Int.{w32, cast_signed, cast_unsigned, int_shr, int_wrapping_sub}
use Rattle.std.specs.Ordering.{int_eq}
use Rattle.std.proofs.lemmas.Bool.Decides.{nat_tests}
use Rattle.rv_machine.specs.Values.{sum, unsigned}
use Rattle.rv_select.specs.Slots.{above_lowest, is_near, is_reached, lowest}
use Rattle.laws_selection.proofs.Halves.{half, low_bits_large, shifted}

-- a distance in two parts: one that an immediate holds, and one of LUI
pub record Splits (d : ℤ) : Type 0 where
  pub near : is_near d ≡ true → (b : ℕ) → sum b (unsigned (lowest d)) ≡ sum b (unsigned d)
  pub far : (b : ℕ) → sum (sum (unsigned (above_lowest d)) b) (unsigned (lowest d)) ≡ sum b (unsigned d)

-- a distance behind, or a small one before
abbrev pub IsRanged : ℤ → Type 0
IsRanged (pos n) = Unit {0}
IsRanged (negsuc n) = n < 2048

low_small : (n : ℕ) → n % 4096 < 2048 → lowest (pos n) ≡ pos (n % 4096)
low_small n s = rw (shifted n) (grind (arith, nat_tests))

low_large : (n : ℕ) → 2048 ≤ n % 4096 → lowest (pos n) ≡ negsuc (4095 - n % 4096)
low_large n s = rw (shifted n) (grind (arith, nat_tests))

high_small : (n : ℕ) → n < 2 ^ 31 - 2 ^ 11 → n % 4096 < 2048 → above_lowest (pos n) ≡ pos (n - n % 4096)
high_small n small s = ap (λ z. int_wrapping_sub w32 (pos n) z) (low_small n s) ∙ grind (arith, nat_tests)

high_large : (n : ℕ) → n < 2 ^ 31 - 2 ^ 11 → 2048 ≤ n % 4096 → above_lowest (pos n) ≡ pos (n + 4096 - n % 4096)
high_large n small s = ap (λ z. int_wrapping_sub w32 (pos n) z) (low_large n s) ∙ grind (arith, nat_tests)

pub splits_by : (n : ℕ) → n < 2 ^ 31 - 2 ^ 11 → (n % 4096 < 2048) ⊎ (2048 ≤ n % 4096) → Splits (pos n)
splits_by n small (inl s) =
    let low = low_small n s in
    let high = high_small n small s in
    record {
      near = λ e b. let none : int_eq (pos (n - n % 4096)) (pos 0) ≡ true = sym (ap (λ z. int_eq z (pos 0)) high) ∙ e in let all : n % 4096 ≡ n = grind (arith, nat_tests) in rw (low, all) refl;
      far = λ b. rw (high, low) (grind arith);
    }
splits_by n small (inr s) =
    let low = low_large n s in
    let high = high_large n small s in
    record {
      near = λ e b. let none : int_eq (pos (n + 4096 - n % 4096)) (pos 0) ≡ true = sym (ap (λ z. int_eq z (pos 0)) high) ∙ e in absurd (grind (arith, nat_tests));
      far = λ b. rw (high, low) (grind arith);
    }

pub splits : (n : ℕ) → n < 2 ^ 31 - 2 ^ 11 → Splits (pos n)
splits n small = splits_by n small (half n)

low_before : (n : ℕ) → n < 2048 → lowest (negsuc n) ≡ negsuc n
low_before n h =
    let e : cast_unsigned w32 (negsuc n) ≡ 2 ^ 32 - 1 - n = grind (arith, nat_tests) in
    ap (λ (m : ℕ). int_shr (cast_signed w32 (m * 2 ^ 20 % 2 ^ 32)) 20) e ∙ low_bits_large (2 ^ 32 - 1 - n) (omega arith) ∙ ap negsuc (omega arith)

high_before : (n : ℕ) → n < 2048 → above_lowest (negsuc n) ≡ pos 0
high_before n h = ap (λ z. int_wrapping_sub w32 (negsuc n) z) (low_before n h) ∙ grind (arith, nat_tests)

splits_before : (n : ℕ) → n < 2048 → Splits (negsuc n)
splits_before n h = record {
  near = λ e b. ap (λ z. sum b (unsigned z)) (low_before n h);
  far = λ b. ap₂ (λ x z. sum (sum (unsigned x) b) (unsigned z)) (high_before n h) (low_before n h) ∙ first b (unsigned (negsuc n));
}
  where
    first : (b c : ℕ) → sum (sum 0 b) c ≡ sum b c
    first b c = grind arith

pub splits_of : (d : ℤ) → IsRanged d → is_reached d ≡ true → Splits d
splits_of (pos n) r e = splits n (grind (arith, nat_tests))
splits_of (negsuc n) r e = splits_before n r
