-- Quotients and rests of words are those of ints: the rest isn't negative, and only the least int by -1 overflows.
use Rattle.std.proofs.Common.{◌≡◌, ℕ, zero, suc, ◌+◌, ◌-◌, ◌*◌, ◌/◌, ◌%◌, ◌^◌, ◌<◌, ◌≤◌, true, false, refl, sym, ap, ◌∙◌, arith, ◌⊎◌, inl, inr, ⊎_elim, ℤ, pos, negsuc, neg_ℤ, int_div, int_rem, bit_and, mod-lt, div-add-mod', div-le_self, zero-lt-suc, mul-le-mul_left}
use Rattle.std.specs.Int.{w64, cast_signed, int_div_euclid, int_rem_euclid}
use Rattle.std.proofs.lemmas.Int.{to_z_pos}
use Rattle.std.proofs.lemmas.Nat.{and_le_l, and_le_r}
use Rattle.std.proofs.lemmas.Bool.{cases_lt}
use mir.ValLaws.{to_z-neg}
use lib.Arith.{digits_mod}
use Rattle.clu_layout.specs.Places.{is_int, is_zero}
use Rattle.clu_wir.specs.declared.expression.WOp.TheVariants as op
use Rattle.clu_wir.specs.declared.trap.Trap.TheVariants as trap
use Rattle.clu_wir.specs.Value.{Value, Gives, Raises, op_word, by_truth}
use Rattle.laws_operations.proofs.Words.{word, by_some, slt_low, slt_high, suc_div}
use Rattle.laws_operations.proofs.Results.{FitsOr, less_of, not_less_of, never, small_is_int, neg_is_int}

-- ---- div

abbrev tested : ℕ → ℕ → ℕ → ℕ → Value
tested over rest side made =
    by_truth (op_word op.Equal over 0) (by_truth rest (by_truth side (Gives (op_word op.Add made 1)) (Gives (op_word op.Sub made 1))) (Gives made)) (Raises trap.Overflow)

abbrev over_of : ℕ → ℕ → ℕ → ℕ
over_of u v made = op_word op.Slt (bit_and (bit_and u v) made) 0

abbrev divided : ℕ → ℕ → Value
divided u v = tested (over_of u v (op_word op.Div u v)) (op_word op.Slt (op_word op.Rem u v) 0) (op_word op.Slt v 0) (op_word op.Div u v)

abbrev pub div_value : ℕ → ℕ → Value
div_value u v = by_truth v (divided u v) (Raises trap.ZeroDivide)

-- by the four words that are tested
by_words : (u v a b c d : ℕ) → over_of u v (op_word op.Div u v) ≡ a → op_word op.Slt (op_word op.Rem u v) 0 ≡ b → op_word op.Slt v 0 ≡ c → op_word op.Div u v ≡ d → divided u v ≡ tested a b c d
by_words u v a b c d p q r s = λ i. tested (p i) (q i) (r i) (s i)

low_over : (u v made : ℕ) → (u < 2 ^ 63) ⊎ ((v < 2 ^ 63) ⊎ (made < 2 ^ 63)) → over_of u v made ≡ 0
low_over u v made l = slt_low _ (by l)
  where
    by : (u < 2 ^ 63) ⊎ ((v < 2 ^ 63) ⊎ (made < 2 ^ 63)) → bit_and (bit_and u v) made < 2 ^ 63
    by (inl l) = omega (arith, and_le_l (bit_and u v) made, and_le_l u v, l)
    by (inr (inl l)) = omega (arith, and_le_l (bit_and u v) made, and_le_r u v, l)
    by (inr (inr l)) = omega (arith, and_le_r (bit_and u v) made, l)

-- the quotient and the rest of words

quot_words : (x y : ℤ) (u v n : ℕ) → cast_signed w64 u ≡ x → cast_signed w64 v ≡ y → v ≡ suc n → op_word op.Div u v ≡ word (int_div x y)
quot_words x y u v n p q e = by_some v _ _ (omega (arith, e)) ∙ (λ i. word (int_div (p i) (q i)))

rest_words : (x y : ℤ) (u v n : ℕ) → cast_signed w64 u ≡ x → cast_signed w64 v ≡ y → v ≡ suc n → op_word op.Rem u v ≡ word (int_rem x y)
rest_words x y u v n p q e = by_some v _ _ (omega (arith, e)) ∙ (λ i. word (int_rem (p i) (q i)))

-- both are not negative
pub div_pp : (a b : ℕ) → a < 2 ^ 63 → suc b < 2 ^ 63 → div_value a (suc b) ≡ Gives (a / suc b)
div_pp a b l m =
    let made = quot_words (pos a) (pos (suc b)) a (suc b) b (to_z_pos w64 a l) (to_z_pos w64 (suc b) m) refl in
    let rest = rest_words (pos a) (pos (suc b)) a (suc b) b (to_z_pos w64 a l) (to_z_pos w64 (suc b) m) refl in
    by_some (suc b) (divided a (suc b)) (Raises trap.ZeroDivide) (zero-lt-suc b) ∙
    by_words a (suc b) 0 0 0 (a / suc b) (low_over a (suc b) _ (inl l))
    (ap (λ n. op_word op.Slt n 0) rest ∙ slt_low (a % suc b) (omega (arith, mod-lt a (zero-lt-suc b), m))) (slt_low (suc b) m) made

-- the first alone is negative
less_one : (k : ℕ) → k ≤ 2 ^ 63 → op_word op.Sub (word (neg_ℤ (pos k))) 1 ≡ word (negsuc k)
less_one zero l = refl
less_one (suc k) l = omega (arith, l)

neg_suc : (k j : ℕ) → k ≡ suc j → neg_ℤ (pos k) ≡ negsuc j
neg_suc k j e = ap (λ n. neg_ℤ (pos n)) e

slt_rest : (m : ℕ) → 0 < m → m ≤ 2 ^ 63 → op_word op.Slt (word (neg_ℤ (pos m))) 0 ≡ 1
slt_rest zero p l = absurd (omega (arith, p))
slt_rest (suc m) p l = slt_high m (omega (arith, l))

pub div_np : (a b : ℕ) → a < 2 ^ 63 → suc b < 2 ^ 63 → div_value (2 ^ 64 - suc a) (suc b) ≡ Gives (word (negsuc (a / suc b)))
div_np a b l m = by_some (suc b) (divided (2 ^ 64 - suc a) (suc b)) (Raises trap.ZeroDivide) (zero-lt-suc b) ∙ by (2 ^ 64 - suc a)
    (quot_words (negsuc a) (pos (suc b)) (2 ^ 64 - suc a) (suc b) b (to_z-neg w64 a l) (to_z_pos w64 (suc b) m) refl)
    (rest_words (negsuc a) (pos (suc b)) (2 ^ 64 - suc a) (suc b) b (to_z-neg w64 a l) (to_z_pos w64 (suc b) m) refl)
    (low_over (2 ^ 64 - suc a) (suc b) (op_word op.Div (2 ^ 64 - suc a) (suc b)) (inr (inl m)))
    (suc_div a (suc b) (zero-lt-suc b))
  where
    by : (u : ℕ) → op_word op.Div u (suc b) ≡ word (neg_ℤ (pos (suc a / suc b))) → op_word op.Rem u (suc b) ≡ word (neg_ℤ (pos (suc a % suc b))) → over_of u (suc b) (op_word op.Div u (suc b)) ≡ 0 →
        ((suc a % suc b ≡ 0) × (suc a / suc b ≡ suc (a / suc b))) ⊎ ((0 < suc a % suc b) × (suc a / suc b ≡ a / suc b)) → divided u (suc b) ≡ Gives (word (negsuc (a / suc b)))
    by u made rest over (inl (none, e)) = by_words u (suc b) 0 0 0 (word (negsuc (a / suc b))) over
        (ap (λ n. op_word op.Slt n 0) rest ∙ ap (λ n. op_word op.Slt (word (neg_ℤ (pos n))) 0) none ∙ slt_low 0 (omega arith)) (slt_low (suc b) m)
        (made ∙ ap word (neg_suc _ _ e))
    by u made rest over (inr (some, e)) = by_words u (suc b) 0 1 0 (word (neg_ℤ (pos (a / suc b)))) over
        (ap (λ n. op_word op.Slt n 0) rest ∙ slt_rest (suc a % suc b) some (omega (arith, mod-lt (suc a) (zero-lt-suc b), m))) (slt_low (suc b) m)
        (made ∙ ap (λ n. word (neg_ℤ (pos n))) e)
        ∙ ap Gives (less_one (a / suc b) (omega (arith, div-le_self a (suc b), l)))

-- the second alone is
pub div_pn : (a b : ℕ) → a < 2 ^ 63 → b < 2 ^ 63 → div_value a (2 ^ 64 - suc b) ≡ Gives (word (neg_ℤ (pos (a / suc b))))
div_pn a b l m =
    let v = 2 ^ 64 - suc b in
    let n = 2 ^ 64 - suc (suc b) in
    let e : v ≡ suc n = omega (arith, m) in
    let made = quot_words (pos a) (negsuc b) a v n (to_z_pos w64 a l) (to_z-neg w64 b m) e in
    let rest = rest_words (pos a) (negsuc b) a v n (to_z_pos w64 a l) (to_z-neg w64 b m) e in
    by_some v (divided a v) (Raises trap.ZeroDivide) (omega (arith, e)) ∙
    by_words a v 0 0 1 (word (neg_ℤ (pos (a / suc b)))) (low_over a v _ (inl l))
    (ap (λ n. op_word op.Slt n 0) rest ∙ slt_low (a % suc b) (omega (arith, mod-lt a (zero-lt-suc b), m))) (slt_high b m) made

-- both are
add_one : (n : ℕ) → suc n < 2 ^ 63 → (n + 1) % 2 ^ 64 ≡ suc n
add_one n l = omega (arith, l)

pub div_nn : (a b : ℕ) → a < 2 ^ 63 → b < 2 ^ 63 → suc (a / suc b) < 2 ^ 63 → div_value (2 ^ 64 - suc a) (2 ^ 64 - suc b) ≡ Gives (suc (a / suc b))
div_nn a b l m fits =
    let e : 2 ^ 64 - suc b ≡ suc (2 ^ 64 - suc (suc b)) = omega (arith, m) in
    by_some (2 ^ 64 - suc b) (divided (2 ^ 64 - suc a) (2 ^ 64 - suc b)) (Raises trap.ZeroDivide) (omega (arith, e)) ∙ by (2 ^ 64 - suc a) (2 ^ 64 - suc b)
    (slt_high b m)
    (quot_words (negsuc a) (negsuc b) (2 ^ 64 - suc a) (2 ^ 64 - suc b) _ (to_z-neg w64 a l) (to_z-neg w64 b m) e)
    (rest_words (negsuc a) (negsuc b) (2 ^ 64 - suc a) (2 ^ 64 - suc b) _ (to_z-neg w64 a l) (to_z-neg w64 b m) e)
    (suc_div a (suc b) (zero-lt-suc b))
  where
    by : (u v : ℕ) → op_word op.Slt v 0 ≡ 1 → op_word op.Div u v ≡ suc a / suc b → op_word op.Rem u v ≡ word (neg_ℤ (pos (suc a % suc b))) → ((suc a % suc b ≡ 0) × (suc a / suc b ≡ suc (a / suc b))) ⊎ ((0 < suc a % suc b) × (suc a / suc b ≡ a / suc b)) → divided u v ≡ Gives (suc (a / suc b))
    by u v high made rest (inl (none, q)) = by_words u v 0 0 1 (suc (a / suc b)) (low_over u v (op_word op.Div u v) (inr (inr (omega (arith, made ∙ q, fits)))))
        (ap (λ n. op_word op.Slt n 0) rest ∙ ap (λ n. op_word op.Slt (word (neg_ℤ (pos n))) 0) none ∙ slt_low 0 (omega arith)) high (made ∙ q)
    by u v high made rest (inr (some, q)) = by_words u v 0 1 1 (a / suc b) (low_over u v (op_word op.Div u v) (inr (inr (omega (arith, made ∙ q, fits)))))
        (ap (λ n. op_word op.Slt n 0) rest ∙ slt_rest (suc a % suc b) some (omega (arith, mod-lt (suc a) (zero-lt-suc b), m))) high (made ∙ q)
        ∙ ap Gives (add_one (a / suc b) fits)

-- the least int by -1
pub div_over : div_value (2 ^ 63) (2 ^ 64 - 1) ≡ Raises trap.Overflow
div_over = refl

pub div_zero : (u : ℕ) → div_value u 0 ≡ Raises trap.ZeroDivide
div_zero u = refl

is_least : (a b : ℕ) → a ≡ 2 ^ 63 - 1 → b ≡ 0 → div_value (2 ^ 64 - suc a) (2 ^ 64 - suc b) ≡ Raises trap.Overflow
is_least a b e f = (λ i. div_value (2 ^ 64 - suc (e i)) (2 ^ 64 - suc (f i))) ∙ div_over

by_one : (a b : ℕ) → a < 2 ^ 63 → 2 ^ 63 ≤ suc (a / suc b) → b ≡ 0
by_one a zero l m = refl
by_one a (suc b) l m = absurd (omega (arith, div-add-mod' a (suc (suc b)), l, m, mul-le-mul_left (a / suc (suc b)) (two_le b)))
  where
    two_le : (b : ℕ) → 2 ≤ suc (suc b)
    two_le b = omega arith

div_past : (a b : ℕ) → a < 2 ^ 63 → 2 ^ 63 ≤ suc (a / suc b) → div_value (2 ^ 64 - suc a) (2 ^ 64 - suc b) ≡ Raises trap.Overflow
div_past a b l m = is_least a b (omega (arith, l, m, div-le_self a (suc b))) (by_one a b l m)

-- by an int that isn't 0
pub div_right : (x y : ℤ) → is_int x ≡ true → is_int y ≡ true → is_zero y ≡ false → FitsOr (int_div_euclid x y) (div_value (word x) (word y))
div_right x (pos zero) p q k = never k
div_right (pos a) (pos (suc b)) p q k = record {
  fits = λ h. div_pp a b (less_of a (2 ^ 63) p) (less_of (suc b) (2 ^ 63) q);
  over = λ h. never (sym (small_is_int (a / suc b) (omega (arith, div-le_self a (suc b), less_of a (2 ^ 63) p))) ∙ h);
}
div_right (negsuc a) (pos (suc b)) p q k = record {
  fits = λ h. div_np a b (less_of a (2 ^ 63) p) (less_of (suc b) (2 ^ 63) q);
  over = λ h. never (sym (small_is_int (a / suc b) (omega (arith, div-le_self a (suc b), less_of a (2 ^ 63) p))) ∙ h);
}
div_right (pos a) (negsuc b) p q k = record {
  fits = λ h. div_pn a b (less_of a (2 ^ 63) p) (less_of b (2 ^ 63) q);
  over = λ h. never (sym (neg_is_int (a / suc b) (omega (arith, div-le_self a (suc b), less_of a (2 ^ 63) p))) ∙ h);
}
div_right (negsuc a) (negsuc b) p q k = record {
  fits = λ h. div_nn a b (less_of a (2 ^ 63) p) (less_of b (2 ^ 63) q) (less_of (suc (a / suc b)) (2 ^ 63) h);
  over = λ h. div_past a b (less_of a (2 ^ 63) p) (not_less_of (suc (a / suc b)) (2 ^ 63) h);
}

-- ---- mod

abbrev rest_by : ℕ → ℕ → ℕ → ℕ → Value
rest_by low side r v = by_truth low (by_truth side (Gives (op_word op.Sub r v)) (Gives (op_word op.Add r v))) (Gives r)

abbrev pub mod_value : ℕ → ℕ → Value
mod_value u v = by_truth v (rest_by (op_word op.Slt (op_word op.Rem u v) 0) (op_word op.Slt v 0) (op_word op.Rem u v) v) (Raises trap.ZeroDivide)

pub mod_zero : (u : ℕ) → mod_value u 0 ≡ Raises trap.ZeroDivide
mod_zero u = refl

mod_by : (u v r a b : ℕ) → 0 < v → op_word op.Rem u v ≡ r → op_word op.Slt r 0 ≡ a → op_word op.Slt v 0 ≡ b → mod_value u v ≡ rest_by a b r v
mod_by u v r a b l e p q =
    by_some v (rest_by (op_word op.Slt (op_word op.Rem u v) 0) (op_word op.Slt v 0) (op_word op.Rem u v) v) (Raises trap.ZeroDivide) l
    ∙ (λ i. rest_by ((ap (λ n. op_word op.Slt n 0) e ∙ p) i) (q i) (e i) v)

-- the rest of the next number
suc_rest : (a d : ℕ) → 0 < d → ((suc a % d ≡ 0) × (suc (a % d) ≡ d)) ⊎ (suc a % d ≡ suc (a % d))
suc_rest a d l = ⊎_elim
    (λ less. inr (let e : suc a ≡ a / d * d + suc (a % d) = omega (arith, div-add-mod' a d) in ap (λ n. n % d) e ∙ digits_mod (a / d) less))
    (λ more. inl (let e : suc a ≡ suc (a / d) * d + 0 = omega (arith, div-add-mod' a d, mod-lt a l, more) in
    (ap (λ n. n % d) e ∙ digits_mod (suc (a / d)) l, omega (arith, mod-lt a l, more))))
    (cases_lt (suc (a % d)) d)

mod_pp : (a b : ℕ) → a < 2 ^ 63 → suc b < 2 ^ 63 → mod_value a (suc b) ≡ Gives (a % suc b)
mod_pp a b l m = mod_by a (suc b) (a % suc b) 0 0 (zero-lt-suc b) (rest_words (pos a) (pos (suc b)) a (suc b) b (to_z_pos w64 a l) (to_z_pos w64 (suc b) m) refl)
    (slt_low (a % suc b) (omega (arith, mod-lt a (zero-lt-suc b), m))) (slt_low (suc b) m)

mod_pn : (a b : ℕ) → a < 2 ^ 63 → b < 2 ^ 63 → mod_value a (2 ^ 64 - suc b) ≡ Gives (a % suc b)
mod_pn a b l m =
    let e : 2 ^ 64 - suc b ≡ suc (2 ^ 64 - suc (suc b)) = omega (arith, m) in
    mod_by a (2 ^ 64 - suc b) (a % suc b) 0 1 (omega (arith, m)) (rest_words (pos a) (negsuc b) a (2 ^ 64 - suc b) (2 ^ 64 - suc (suc b)) (to_z_pos w64 a l) (to_z-neg w64 b m) e)
    (slt_low (a % suc b) (omega (arith, mod-lt a (zero-lt-suc b), m))) (slt_high b m)

-- the word of a rest that isn't positive
negated : (k j : ℕ) → k ≡ suc j → j < 2 ^ 63 → word (neg_ℤ (pos k)) ≡ 2 ^ 64 - suc j
negated k j e l = ap (λ n. word (neg_ℤ (pos n))) e

onto : (j b r v : ℕ) → r ≡ 2 ^ 64 - suc j → v ≡ suc b → j < b → suc b < 2 ^ 63 → op_word op.Add r v ≡ suc b - 1 - j
onto j b r v e g l m = (λ i. (e i + g i) % 2 ^ 64) ∙ by j b l m
  where
    by : (j b : ℕ) → j < b → suc b < 2 ^ 63 → (2 ^ 64 - suc j + suc b) % 2 ^ 64 ≡ suc b - 1 - j
    by j b l m = omega (arith, l, m)

off : (j b r v : ℕ) → r ≡ 2 ^ 64 - suc j → v ≡ 2 ^ 64 - suc b → j < b → b < 2 ^ 63 → op_word op.Sub r v ≡ suc b - 1 - j
off j b r v e g l m = (λ i. (e i + 2 ^ 64 - g i) % 2 ^ 64) ∙ by j b l m
  where
    by : (j b : ℕ) → j < b → b < 2 ^ 63 → (2 ^ 64 - suc j + 2 ^ 64 - (2 ^ 64 - suc b)) % 2 ^ 64 ≡ suc b - 1 - j
    by j b l m = omega (arith, l, m)

mod_np : (a b : ℕ) → a < 2 ^ 63 → suc b < 2 ^ 63 → mod_value (2 ^ 64 - suc a) (suc b) ≡ Gives (suc b - 1 - a % suc b)
mod_np a b l m = by (2 ^ 64 - suc a)
    (rest_words (negsuc a) (pos (suc b)) (2 ^ 64 - suc a) (suc b) b (to_z-neg w64 a l) (to_z_pos w64 (suc b) m) refl) (suc_rest a (suc b) (zero-lt-suc b))
  where
    by : (u : ℕ) → op_word op.Rem u (suc b) ≡ word (neg_ℤ (pos (suc a % suc b))) → ((suc a % suc b ≡ 0) × (suc (a % suc b) ≡ suc b)) ⊎ (suc a % suc b ≡ suc (a % suc b)) →
        mod_value u (suc b) ≡ Gives (suc b - 1 - a % suc b)
    by u rest (inl (none, last)) = mod_by u (suc b) 0 0 0 (zero-lt-suc b) (rest ∙ ap (λ n. word (neg_ℤ (pos n))) none) (slt_low 0 (omega arith)) (slt_low (suc b) m)
        ∙ ap Gives (omega (arith, last))
    by u rest (inr some) =
        let j = a % suc b in
        let below : suc j < suc b = omega (arith, some, mod-lt (suc a) (zero-lt-suc b)) in
        let small : j < 2 ^ 63 = omega (arith, below, m) in
        mod_by u (suc b) (2 ^ 64 - suc j) 1 0 (zero-lt-suc b) (rest ∙ negated (suc a % suc b) j some small) (slt_high j small) (slt_low (suc b) m)
        ∙ ap Gives (onto j b (2 ^ 64 - suc j) (suc b) refl refl (omega (arith, below)) m)

mod_nn : (a b : ℕ) → a < 2 ^ 63 → b < 2 ^ 63 → mod_value (2 ^ 64 - suc a) (2 ^ 64 - suc b) ≡ Gives (suc b - 1 - a % suc b)
mod_nn a b l m =
    let e : 2 ^ 64 - suc b ≡ suc (2 ^ 64 - suc (suc b)) = omega (arith, m) in
    by (2 ^ 64 - suc a) (2 ^ 64 - suc b) (omega (arith, m)) (slt_high b m) refl
    (rest_words (negsuc a) (negsuc b) (2 ^ 64 - suc a) (2 ^ 64 - suc b) (2 ^ 64 - suc (suc b)) (to_z-neg w64 a l) (to_z-neg w64 b m) e) (suc_rest a (suc b) (zero-lt-suc b))
  where
    by : (u v : ℕ) → 0 < v → op_word op.Slt v 0 ≡ 1 → v ≡ 2 ^ 64 - suc b → op_word op.Rem u v ≡ word (neg_ℤ (pos (suc a % suc b))) →
        ((suc a % suc b ≡ 0) × (suc (a % suc b) ≡ suc b)) ⊎ (suc a % suc b ≡ suc (a % suc b)) → mod_value u v ≡ Gives (suc b - 1 - a % suc b)
    by u v up high is rest (inl (none, last)) = mod_by u v 0 0 1 up (rest ∙ ap (λ n. word (neg_ℤ (pos n))) none) (slt_low 0 (omega arith)) high
        ∙ ap Gives (omega (arith, last))
    by u v up high is rest (inr some) =
        let j = a % suc b in
        let below : suc j < suc b = omega (arith, some, mod-lt (suc a) (zero-lt-suc b)) in
        let small : j < 2 ^ 63 = omega (arith, below, m) in
        mod_by u v (2 ^ 64 - suc j) 1 1 up (rest ∙ negated (suc a % suc b) j some small) (slt_high j small) high
        ∙ ap Gives (off j b (2 ^ 64 - suc j) v refl is (omega (arith, below)) m)

pub mod_right : (x y : ℤ) → is_int x ≡ true → is_int y ≡ true → is_zero y ≡ false → mod_value (word x) (word y) ≡ Gives (word (int_rem_euclid x y))
mod_right x (pos zero) p q k = never k
mod_right (pos a) (pos (suc b)) p q k = mod_pp a b (less_of a (2 ^ 63) p) (less_of (suc b) (2 ^ 63) q)
mod_right (pos a) (negsuc b) p q k = mod_pn a b (less_of a (2 ^ 63) p) (less_of b (2 ^ 63) q)
mod_right (negsuc a) (pos (suc b)) p q k = mod_np a b (less_of a (2 ^ 63) p) (less_of (suc b) (2 ^ 63) q)
mod_right (negsuc a) (negsuc b) p q k = mod_nn a b (less_of a (2 ^ 63) p) (less_of b (2 ^ 63) q)

pub mod_is_int : (x y : ℤ) → is_int y ≡ true → is_zero y ≡ false → is_int (int_rem_euclid x y) ≡ true
mod_is_int x (pos zero) q k = never k
mod_is_int (pos a) (pos (suc b)) q k = small_is_int (a % suc b) (omega (arith, mod-lt a (zero-lt-suc b), less_of (suc b) (2 ^ 63) q))
mod_is_int (pos a) (negsuc b) q k = small_is_int (a % suc b) (omega (arith, mod-lt a (zero-lt-suc b), less_of b (2 ^ 63) q))
mod_is_int (negsuc a) (pos (suc b)) q k = small_is_int (suc b - 1 - a % suc b) (omega (arith, less_of (suc b) (2 ^ 63) q))
mod_is_int (negsuc a) (negsuc b) q k = small_is_int (suc b - 1 - a % suc b) (omega (arith, less_of b (2 ^ 63) q))
