-- Digits one after the other from the last on, and types one after the other.
use Rattle.std.proofs.Common.{◌≡◌, ◌∙◌, ℕ, suc, ◌+◌, ◌-◌, ◌/◌, ◌<◌, ◌≤◌, ◌==◌, Bool, if◌then◌else◌, ap, arith, eq-eqb, ne_eqb}
use Rattle.clu_name_rules.specs.Lengths.{digits_in}

next : (before n : ℕ) → before < 64 → digits_in (64 - before) n ≡ (if n / 10 == 0 then 1 else suc (digits_in (64 - (before + 1)) (n / 10)))
unfolding digits_in
next before n less = let left : 64 - before ≡ suc (64 - (before + 1)) = omega (arith, less) in ap (λ (k : ℕ). digits_in k n) left

pub last_digit : (before n all : ℕ) → before < 64 → before + digits_in (64 - before) n ≡ all → n / 10 ≡ 0 → before + 1 ≡ all
last_digit before n all less is last =
    let one : digits_in (64 - before) n ≡ 1 = next before n less ∙ ap (λ (b : Bool). if b then 1 else suc (digits_in (64 - (before + 1)) (n / 10))) (eq-eqb (n / 10) 0 last) in
    omega (arith, is, one)

pub more_digits : (before n all : ℕ) → before < 64 → before + digits_in (64 - before) n ≡ all → (n / 10 ≡ 0 → ⊥) → (before + 1) + digits_in (64 - (before + 1)) (n / 10) ≡ all
more_digits before n all less is more =
    let one : digits_in (64 - before) n ≡ suc (digits_in (64 - (before + 1)) (n / 10)) = next before n less ∙ ap (λ (b : Bool). if b then 1 else suc (digits_in (64 - (before + 1)) (n / 10))) (ne_eqb (n / 10) 0 more) in
    omega (arith, is, one)

pub no_digits : (before n all : ℕ) → 64 ≤ before → before ≤ 64 → before + digits_in (64 - before) n ≡ all → 64 ≡ all
unfolding digits_in
no_digits before n all least most is =
    let none : digits_in (64 - before) n ≡ 0 = let left : 64 - before ≡ 0 = omega (arith, least) in ap (λ (k : ℕ). digits_in k n) left in
    omega (arith, least, most, is, none)
