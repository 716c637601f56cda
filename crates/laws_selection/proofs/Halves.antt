-- Known words of 32 and of 64 bits.
use Rattle.std.proofs.Common.{◌≡◌, ◌∙◌, ◌⊎◌, inl, inr, ℕ, ℤ, pos, negsuc, ◌+◌, ◌-◌, ◌*◌, ◌/◌, ◌%◌, ◌^◌, ◌<◌, ◌≤◌, true, refl, ap, ap₂, sym, arith}
use Rattle.std.proofs.lemmas.Int.{of_z-to_z}
use Rattle.std.specs.Ordering.{int_eq}
use Rattle.std.specs.Int.{w32, w64, cast_signed, cast_unsigned, int_shr}
use Rattle.std.proofs.lemmas.Bool.Decides.{nat_tests}
use Rattle.rv_machine.specs.Values.{extended, sum, unsigned}
use Rattle.rv_select.specs.Slots.{above_lowest, lowest}
use Rattle.rv_select.specs.Operands.{lower_half, upper_half}

pub half : (n : ℕ) → (n % 4096 < 2048) ⊎ (2048 ≤ n % 4096)
half n = grind arith

pub shifted : (u : ℕ) → u * 2 ^ 20 % 2 ^ 32 ≡ (u % 4096) * 2 ^ 20
shifted u = omega arith

-- by the 32 bits of a number
pub low_bits_small : (u : ℕ) → u % 4096 < 2048 → int_shr (cast_signed w32 (u * 2 ^ 20 % 2 ^ 32)) 20 ≡ pos (u % 4096)
low_bits_small u s = rw (shifted u) (grind (arith, nat_tests))

pub low_bits_large : (u : ℕ) → 2048 ≤ u % 4096 → int_shr (cast_signed w32 (u * 2 ^ 20 % 2 ^ 32)) 20 ≡ negsuc (4095 - u % 4096)
low_bits_large u s = rw (shifted u) (grind (arith, nat_tests))

-- LUI and ADDIW
pub short_sum : (z : ℤ) (u : ℕ) → cast_unsigned w32 z ≡ u → u < 2 ^ 32 → extended ((unsigned (above_lowest z) + unsigned (lowest z)) % 2 ^ 32) ≡ unsigned (cast_signed w32 u)
short_sum z u e small = by (half u)
  where
    by : (u % 4096 < 2048) ⊎ (2048 ≤ u % 4096) → extended ((unsigned (above_lowest z) + unsigned (lowest z)) % 2 ^ 32) ≡ unsigned (cast_signed w32 u)
    by (inl s) =
        let low : lowest z ≡ pos (u % 4096) = ap (λ n. int_shr (cast_signed w32 (n * 2 ^ 20 % 2 ^ 32)) 20) e ∙ low_bits_small u s in
        let high : above_lowest z ≡ cast_signed w32 ((u + (2 ^ 32 - u % 4096)) % 2 ^ 32) = ap₂ (λ n m. cast_signed w32 ((n + (2 ^ 32 - cast_unsigned w32 m)) % 2 ^ 32)) e low in
        let whole : (unsigned (cast_signed w32 ((u + (2 ^ 32 - u % 4096)) % 2 ^ 32)) + u % 4096) % 2 ^ 32 ≡ u = grind (arith, nat_tests) in
        ap₂ (λ a b. extended ((unsigned a + unsigned b) % 2 ^ 32)) high low ∙ ap extended whole
    by (inr s) =
        let low : lowest z ≡ negsuc (4095 - u % 4096) = ap (λ n. int_shr (cast_signed w32 (n * 2 ^ 20 % 2 ^ 32)) 20) e ∙ low_bits_large u s in
        let high : above_lowest z ≡ cast_signed w32 ((u + (2 ^ 32 - cast_unsigned w32 (negsuc (4095 - u % 4096)))) % 2 ^ 32) = ap₂ (λ n m. cast_signed w32 ((n + (2 ^ 32 - cast_unsigned w32 m)) % 2 ^ 32)) e low in
        let whole : (unsigned (cast_signed w32 ((u + (2 ^ 32 - cast_unsigned w32 (negsuc (4095 - u % 4096)))) % 2 ^ 32)) + unsigned (negsuc (4095 - u % 4096))) % 2 ^ 32 ≡ u = grind (arith, nat_tests) in
        ap₂ (λ a b. extended ((unsigned a + unsigned b) % 2 ^ 32)) high low ∙ ap extended whole

-- the halves of a word of 64 bits
lower_by : (word : ℕ) → word < 2 ^ 64 → (word % 2 ^ 32 < 2 ^ 31) ⊎ (2 ^ 31 ≤ word % 2 ^ 32)
lower_by word small = grind arith

lower_small : (word : ℕ) → word < 2 ^ 64 → word % 2 ^ 32 < 2 ^ 31 → int_shr (cast_signed w64 (word * 2 ^ 32 % 2 ^ 64)) 32 ≡ pos (word % 2 ^ 32)
lower_small word small s = let shift : word * 2 ^ 32 % 2 ^ 64 ≡ (word % 2 ^ 32) * 2 ^ 32 = omega arith in rw shift (grind (arith, nat_tests))

lower_large : (word : ℕ) → word < 2 ^ 64 → 2 ^ 31 ≤ word % 2 ^ 32 → int_shr (cast_signed w64 (word * 2 ^ 32 % 2 ^ 64)) 32 ≡ negsuc (2 ^ 32 - 1 - word % 2 ^ 32)
lower_large word small s = let shift : word * 2 ^ 32 % 2 ^ 64 ≡ (word % 2 ^ 32) * 2 ^ 32 = omega arith in rw shift (grind (arith, nat_tests))

-- a number of 32 bits whose upper part is 0
small_end : (u : ℕ) → u < 2 ^ 32 → u % 4096 < 2048 → int_eq (cast_signed w32 ((u + (2 ^ 32 - u % 4096)) % 2 ^ 32)) (pos 0) ≡ true → pos (u % 4096) ≡ cast_signed w32 u
small_end u small s none = grind (arith, nat_tests)

large_end : (u : ℕ) → u < 2 ^ 32 → 2048 ≤ u % 4096 → int_eq (cast_signed w32 ((u + (2 ^ 32 - cast_unsigned w32 (negsuc (4095 - u % 4096)))) % 2 ^ 32)) (pos 0) ≡ true → negsuc (4095 - u % 4096) ≡ cast_signed w32 u
large_end u small s none = grind (arith, nat_tests)

pub low_is : (u : ℕ) → u < 2 ^ 32 → int_eq (above_lowest (cast_signed w32 u)) (pos 0) ≡ true → lowest (cast_signed w32 u) ≡ cast_signed w32 u
low_is u small e = by (half u)
  where
    bits : cast_unsigned w32 (cast_signed w32 u) ≡ u
    bits = of_z-to_z w32 u small

    by : (u % 4096 < 2048) ⊎ (2048 ≤ u % 4096) → lowest (cast_signed w32 u) ≡ cast_signed w32 u
    by (inl s) =
        let low : lowest (cast_signed w32 u) ≡ pos (u % 4096) = ap (λ n. int_shr (cast_signed w32 (n * 2 ^ 20 % 2 ^ 32)) 20) bits ∙ low_bits_small u s in
        let high : above_lowest (cast_signed w32 u) ≡ cast_signed w32 ((u + (2 ^ 32 - u % 4096)) % 2 ^ 32) = ap₂ (λ n m. cast_signed w32 ((n + (2 ^ 32 - cast_unsigned w32 m)) % 2 ^ 32)) bits low in
        low ∙ small_end u small s (sym (ap (λ z. int_eq z (pos 0)) high) ∙ e)
    by (inr s) =
        let low : lowest (cast_signed w32 u) ≡ negsuc (4095 - u % 4096) = ap (λ n. int_shr (cast_signed w32 (n * 2 ^ 20 % 2 ^ 32)) 20) bits ∙ low_bits_large u s in
        let high : above_lowest (cast_signed w32 u) ≡ cast_signed w32 ((u + (2 ^ 32 - cast_unsigned w32 (negsuc (4095 - u % 4096)))) % 2 ^ 32) = ap₂ (λ n m. cast_signed w32 ((n + (2 ^ 32 - cast_unsigned w32 m)) % 2 ^ 32)) bits low in
        low ∙ large_end u small s (sym (ap (λ z. int_eq z (pos 0)) high) ∙ e)

-- the lower half is the number that the low 32 bits stand for, and the upper one that of the bits above
pub lower_is : (word : ℕ) → word < 2 ^ 64 → lower_half (cast_signed w64 word) ≡ cast_signed w32 (word % 2 ^ 32)
unfolding lower_half
lower_is word small = ap (λ n. int_shr (cast_signed w64 (n * 2 ^ 32 % 2 ^ 64)) 32) (of_z-to_z w64 word small) ∙ by (lower_by word small)
  where
    by : (word % 2 ^ 32 < 2 ^ 31) ⊎ (2 ^ 31 ≤ word % 2 ^ 32) → int_shr (cast_signed w64 (word * 2 ^ 32 % 2 ^ 64)) 32 ≡ cast_signed w32 (word % 2 ^ 32)
    by (inl s) = lower_small word small s ∙ grind (arith, nat_tests)
    by (inr s) = lower_large word small s ∙ grind (arith, nat_tests)

sign_by : (m : ℕ) → m < 2 ^ 64 → (m < 2 ^ 63) ⊎ (2 ^ 63 ≤ m)
sign_by m small = grind arith

pub high_is : (m : ℕ) → m < 2 ^ 64 → int_shr (cast_signed w64 m) 32 ≡ cast_signed w32 (m / 2 ^ 32)
high_is m small = by (sign_by m small)
  where
    by : (m < 2 ^ 63) ⊎ (2 ^ 63 ≤ m) → int_shr (cast_signed w64 m) 32 ≡ cast_signed w32 (m / 2 ^ 32)
    by (inl s) = grind (arith, nat_tests)
    by (inr s) = grind (arith, nat_tests)

pub unsigned_small : (u : ℕ) → u < 2 ^ 31 → unsigned (cast_signed w32 u) ≡ u
unsigned_small u s = grind (arith, nat_tests)

pub unsigned_large : (u : ℕ) → u < 2 ^ 32 → 2 ^ 31 ≤ u → unsigned (cast_signed w32 u) ≡ 2 ^ 64 - 2 ^ 32 + u
unsigned_large u small s = grind (arith, nat_tests)

-- both halves together
joined : (x a q l h : ℕ) → x < 2 ^ 64 → l ≡ x % 2 ^ 32 → (a ≡ l) ⊎ (a ≡ 2 ^ 64 - 2 ^ 32 + l) → q ≡ (x + (2 ^ 64 - a)) % 2 ^ 64 / 2 ^ 32 → (h ≡ q) ⊎ (h ≡ 2 ^ 64 - 2 ^ 32 + q) → (h * 2 ^ 32 % 2 ^ 64 + a) % 2 ^ 64 ≡ x
joined x a q l h small e (inl s) f (inl t) = omega arith
joined x a q l h small e (inl s) f (inr t) = omega arith
joined x a q l h small e (inr s) f (inl t) = omega arith
joined x a q l h small e (inr s) f (inr t) = omega arith

signs : (u : ℕ) → u < 2 ^ 32 → (unsigned (cast_signed w32 u) ≡ u) ⊎ (unsigned (cast_signed w32 u) ≡ 2 ^ 64 - 2 ^ 32 + u)
signs u small = by (low_or u small)
  where
    low_or : (u : ℕ) → u < 2 ^ 32 → (u < 2 ^ 31) ⊎ (2 ^ 31 ≤ u)
    low_or u small = grind arith

    by : (u < 2 ^ 31) ⊎ (2 ^ 31 ≤ u) → (unsigned (cast_signed w32 u) ≡ u) ⊎ (unsigned (cast_signed w32 u) ≡ 2 ^ 64 - 2 ^ 32 + u)
    by (inl s) = inl (unsigned_small u s)
    by (inr s) = inr (unsigned_large u small s)

pub signed_below : (u : ℕ) → u < 2 ^ 32 → unsigned (cast_signed w32 u) < 2 ^ 64
signed_below u small = by (signs u small)
  where
    by : (unsigned (cast_signed w32 u) ≡ u) ⊎ (unsigned (cast_signed w32 u) ≡ 2 ^ 64 - 2 ^ 32 + u) → unsigned (cast_signed w32 u) < 2 ^ 64
    by (inl e) = omega arith
    by (inr e) = omega arith

-- the 32 bits of the upper half
abbrev pub upper_bits : ℕ → ℕ
upper_bits word = (word + (2 ^ 64 - unsigned (cast_signed w32 (word % 2 ^ 32)))) % 2 ^ 64 / 2 ^ 32

pub upper_is : (word : ℕ) → word < 2 ^ 64 → upper_half (cast_signed w64 word) ≡ cast_signed w32 (upper_bits word)
upper_is word small =
    ap₂ (λ n m. int_shr (cast_signed w64 ((n + (2 ^ 64 - unsigned m)) % 2 ^ 64)) 32) (of_z-to_z w64 word small) (lower_is word small)
    ∙ high_is ((word + (2 ^ 64 - unsigned (cast_signed w32 (word % 2 ^ 32)))) % 2 ^ 64) (omega arith)

pub whole_is : (word : ℕ) → word < 2 ^ 64 → sum (unsigned (cast_signed w32 (upper_bits word)) * 2 ^ 32 % 2 ^ 64) (unsigned (cast_signed w32 (word % 2 ^ 32))) ≡ word
whole_is word small =
    joined word (unsigned (cast_signed w32 (word % 2 ^ 32))) (upper_bits word) (word % 2 ^ 32) (unsigned (cast_signed w32 (upper_bits word))) small refl
    (signs (word % 2 ^ 32) (omega arith)) refl (signs (upper_bits word) (omega arith))
