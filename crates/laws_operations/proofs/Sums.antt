-- Sums, differences and negatives of words are those of ints, and overflow is told exactly at the ends.
use Rattle.std.proofs.Common.{◌≡◌, ℕ, zero, suc, ◌+◌, ◌-◌, ◌%◌, ◌^◌, ◌<◌, ◌≤◌, Bool, true, false, refl, sym, ap, ◌∙◌, arith, if◌then◌else◌, ◌==◌, ℤ, pos, negsuc, neg_ℤ, ◌+ℤ◌, ◌-ℤ◌, int_lt, bit_and, mod-lt}
use Rattle.std.specs.Int.{w64, cast_signed, cast_unsigned, from_bool, int_wrap}
use Rattle.std.proofs.lemmas.Int.{to_z-of_z, to_z_pos, of_z-to_z, ints, wrapping_add_is, wrapping_sub_is, int_wrap_fits}
use Rattle.std.proofs.lemmas.Nat.{and_le_l, and_le_r}
use mir.ValLaws.{to_z-neg}
use lib.Pow.{pow_pos}
use Rattle.clu_layout.specs.Places.{is_int}
use Rattle.clu_wir.specs.declared.expression.WOp.TheVariants as op
use Rattle.clu_wir.specs.declared.trap.Trap.TheVariants as trap
use Rattle.clu_wir.specs.Value.{Value, Gives, Raises, op_word, by_truth}
use Rattle.laws_operations.proofs.Words.{word, slt_low, slt_high}
use Rattle.laws_operations.proofs.Results.{fits_of, less_of, not_less_of, never}

-- the result, if both tests give the same
abbrev pub same_or_over : ℕ → ℕ → ℕ → Value
same_or_over a b made = by_truth (op_word op.Equal a b) (Gives made) (Raises trap.Overflow)

abbrev pub sum_value : ℕ → ℕ → Value
sum_value u v = same_or_over (op_word op.Slt v 0) (op_word op.Slt (op_word op.Add u v) u) (op_word op.Add u v)

abbrev pub difference_value : ℕ → ℕ → Value
difference_value u v = same_or_over (op_word op.Slt 0 v) (op_word op.Slt (op_word op.Sub u v) u) (op_word op.Sub u v)

abbrev pub negative_value : ℕ → Value
negative_value u = same_or_over (op_word op.Slt (op_word op.And u (op_word op.Sub 0 u)) 0) 0 (op_word op.Sub 0 u)

by_tests : (a b made a' b' made' : ℕ) → a ≡ a' → b ≡ b' → made ≡ made' → same_or_over a b made ≡ same_or_over a' b' made'
by_tests a b made a' b' made' p q r = λ i. same_or_over (p i) (q i) (r i)

lt_words : (u v : ℕ) (x y : ℤ) → cast_signed w64 u ≡ x → cast_signed w64 v ≡ y → op_word op.Slt u v ≡ from_bool (int_lt x y)
lt_words u v x y p q = λ i. from_bool (int_lt (p i) (q i))

equal_bools : (t : Bool) → (op_word op.Equal (from_bool t) (from_bool t) == 0) ≡ false
equal_bools true = refl
equal_bools false = refl

same_test : (t : Bool) (made : ℕ) → same_or_over (from_bool t) (from_bool t) made ≡ Gives made
same_test t made = ap (λ b. if b then Raises trap.Overflow else Gives made) (equal_bools t)

-- the word of what is read as an int that fits
word_of_sum : (made : ℕ) (z : ℤ) → made < 2 ^ 64 → cast_signed w64 made ≡ int_wrap w64 z → is_int z ≡ true → made ≡ word z
word_of_sum made z l e h = sym (of_z-to_z w64 made l) ∙ ap (cast_unsigned w64) (e ∙ int_wrap_fits w64 z (fits_of z h))

-- ---- add

same_side : (x y : ℤ) → int_lt (x +ℤ y) x ≡ int_lt y (pos 0)
same_side x y = by (int_lt (x +ℤ y) x) (int_lt y (pos 0)) refl refl
  where
    by : (s t : Bool) → int_lt (x +ℤ y) x ≡ s → int_lt y (pos 0) ≡ t → int_lt (x +ℤ y) x ≡ int_lt y (pos 0)
    by true true p q = p ∙ sym q
    by false false p q = p ∙ sym q
    by true false p q = absurd (omega (arith, ints, p, q))
    by false true p q = absurd (omega (arith, ints, p, q))

pub add_fits : (x y : ℤ) → is_int x ≡ true → is_int y ≡ true → is_int (x +ℤ y) ≡ true → sum_value (word x) (word y) ≡ Gives (word (x +ℤ y))
add_fits x y p q h =
    let fx = fits_of x p in
    let fy = fits_of y q in
    let wrapped : cast_signed w64 (op_word op.Add (word x) (word y)) ≡ int_wrap w64 (x +ℤ y) = wrapping_add_is w64 x y fx fy in
    let sum = word_of_sum (op_word op.Add (word x) (word y)) (x +ℤ y) (mod-lt (word x + word y) (pow_pos 64)) wrapped h in
    let read : cast_signed w64 (op_word op.Add (word x) (word y)) ≡ x +ℤ y = wrapped ∙ int_wrap_fits w64 (x +ℤ y) (fits_of (x +ℤ y) h) in
    by_tests (op_word op.Slt (word y) 0) (op_word op.Slt (op_word op.Add (word x) (word y)) (word x)) (op_word op.Add (word x) (word y))
    (from_bool (int_lt y (pos 0))) (from_bool (int_lt y (pos 0))) (word (x +ℤ y))
    (lt_words (word y) 0 y (pos 0) (to_z-of_z w64 y fy) refl)
    (lt_words (op_word op.Add (word x) (word y)) (word x) (x +ℤ y) x read (to_z-of_z w64 x fx) ∙ ap from_bool (same_side x y)) sum
    ∙ same_test (int_lt y (pos 0)) (word (x +ℤ y))

mixed : (a b : ℕ) (z : ℤ) → a < 2 ^ 63 → b < 2 ^ 63 → z ≡ pos a +ℤ negsuc b → is_int z ≡ false → ⊥
mixed a b (pos n) l m e h = omega (arith, ints, l, m, e, not_less_of n (2 ^ 63) h)
mixed a b (negsuc n) l m e h = omega (arith, ints, l, m, e, not_less_of n (2 ^ 63) h)

pub add_over : (x y : ℤ) → is_int x ≡ true → is_int y ≡ true → is_int (x +ℤ y) ≡ false → sum_value (word x) (word y) ≡ Raises trap.Overflow
add_over (pos a) (pos b) p q h =
    let l = less_of a (2 ^ 63) p in
    let m = less_of b (2 ^ 63) q in
    let n = not_less_of (a + b) (2 ^ 63) h in
    let sum : op_word op.Add a b ≡ 2 ^ 64 - suc (2 ^ 64 - 1 - (a + b)) = omega (arith, l, m, n) in
    by_tests (op_word op.Slt b 0) (op_word op.Slt (op_word op.Add a b) a) (op_word op.Add a b) 0 1 (op_word op.Add a b) (slt_low b m)
    (lt_words (op_word op.Add a b) a (negsuc (2 ^ 64 - 1 - (a + b))) (pos a) (ap (cast_signed w64) sum ∙ to_z-neg w64 (2 ^ 64 - 1 - (a + b)) (omega (arith, l, m, n))) (to_z_pos w64 a l)) refl
add_over (negsuc a) (negsuc b) p q h =
    let l = less_of a (2 ^ 63) p in
    let m = less_of b (2 ^ 63) q in
    let n = not_less_of (suc (a + b)) (2 ^ 63) h in
    let sum : op_word op.Add (2 ^ 64 - suc a) (2 ^ 64 - suc b) ≡ 2 ^ 64 - suc a - suc b = omega (arith, l, m, n) in
    by_tests (op_word op.Slt (2 ^ 64 - suc b) 0) (op_word op.Slt (op_word op.Add (2 ^ 64 - suc a) (2 ^ 64 - suc b)) (2 ^ 64 - suc a)) (op_word op.Add (2 ^ 64 - suc a) (2 ^ 64 - suc b))
    1 0 (op_word op.Add (2 ^ 64 - suc a) (2 ^ 64 - suc b)) (slt_high b m)
    (lt_words (op_word op.Add (2 ^ 64 - suc a) (2 ^ 64 - suc b)) (2 ^ 64 - suc a) (pos (2 ^ 64 - suc a - suc b)) (negsuc a) (ap (cast_signed w64) sum ∙ to_z_pos w64 (2 ^ 64 - suc a - suc b) (omega (arith, l, m, n))) (to_z-neg w64 a l)) refl
add_over (pos a) (negsuc b) p q h = absurd (mixed a b (pos a +ℤ negsuc b) (less_of a (2 ^ 63) p) (less_of b (2 ^ 63) q) refl h)
add_over (negsuc a) (pos b) p q h = absurd (mixed b a (negsuc a +ℤ pos b) (less_of b (2 ^ 63) q) (less_of a (2 ^ 63) p) refl h)

-- ---- sub

other_side : (x y : ℤ) → int_lt (x -ℤ y) x ≡ int_lt (pos 0) y
other_side x y = by (int_lt (x -ℤ y) x) (int_lt (pos 0) y) refl refl
  where
    by : (s t : Bool) → int_lt (x -ℤ y) x ≡ s → int_lt (pos 0) y ≡ t → int_lt (x -ℤ y) x ≡ int_lt (pos 0) y
    by true true p q = p ∙ sym q
    by false false p q = p ∙ sym q
    by true false p q = absurd (omega (arith, ints, p, q))
    by false true p q = absurd (omega (arith, ints, p, q))

taken : (u v : ℕ) → v < 2 ^ 64 → (u + 2 ^ 64 - v) % 2 ^ 64 ≡ (u + (2 ^ 64 - v)) % 2 ^ 64
taken u v l = ap (λ n. n % 2 ^ 64) (by u v l)
  where
    by : (u v : ℕ) → v < 2 ^ 64 → u + 2 ^ 64 - v ≡ u + (2 ^ 64 - v)
    by u v l = omega (arith, l)

pub word_below : (x : ℤ) → is_int x ≡ true → word x < 2 ^ 64
word_below (pos a) p = omega (arith, less_of a (2 ^ 63) p)
word_below (negsuc a) p = omega (arith, less_of a (2 ^ 63) p)

pub sub_wraps : (x y : ℤ) → is_int x ≡ true → is_int y ≡ true → cast_signed w64 (op_word op.Sub (word x) (word y)) ≡ int_wrap w64 (x -ℤ y)
sub_wraps x y p q = ap (cast_signed w64) (taken (word x) (word y) (word_below y q)) ∙ wrapping_sub_is w64 x y (fits_of x p) (fits_of y q)

pub sub_fits : (x y : ℤ) → is_int x ≡ true → is_int y ≡ true → is_int (x -ℤ y) ≡ true → difference_value (word x) (word y) ≡ Gives (word (x -ℤ y))
sub_fits x y p q h =
    let wrapped = sub_wraps x y p q in
    let made = word_of_sum (op_word op.Sub (word x) (word y)) (x -ℤ y) (mod-lt (word x + 2 ^ 64 - word y) (pow_pos 64)) wrapped h in
    let read : cast_signed w64 (op_word op.Sub (word x) (word y)) ≡ x -ℤ y = wrapped ∙ int_wrap_fits w64 (x -ℤ y) (fits_of (x -ℤ y) h) in
    by_tests (op_word op.Slt 0 (word y)) (op_word op.Slt (op_word op.Sub (word x) (word y)) (word x)) (op_word op.Sub (word x) (word y))
    (from_bool (int_lt (pos 0) y)) (from_bool (int_lt (pos 0) y)) (word (x -ℤ y))
    (lt_words 0 (word y) (pos 0) y refl (to_z-of_z w64 y (fits_of y q)))
    (lt_words (op_word op.Sub (word x) (word y)) (word x) (x -ℤ y) x read (to_z-of_z w64 x (fits_of x p)) ∙ ap from_bool (other_side x y)) made
    ∙ same_test (int_lt (pos 0) y) (word (x -ℤ y))

-- a difference of two that are both negative or both not is an int
near_pos : (a b : ℕ) (z : ℤ) → a < 2 ^ 63 → b < 2 ^ 63 → z ≡ pos a -ℤ pos b → is_int z ≡ false → ⊥
near_pos a b (pos n) l m e h = omega (arith, ints, l, m, e, not_less_of n (2 ^ 63) h)
near_pos a b (negsuc n) l m e h = omega (arith, ints, l, m, e, not_less_of n (2 ^ 63) h)

near_neg : (a b : ℕ) (z : ℤ) → a < 2 ^ 63 → b < 2 ^ 63 → z ≡ negsuc a -ℤ negsuc b → is_int z ≡ false → ⊥
near_neg a b (pos n) l m e h = omega (arith, ints, l, m, e, not_less_of n (2 ^ 63) h)
near_neg a b (negsuc n) l m e h = omega (arith, ints, l, m, e, not_less_of n (2 ^ 63) h)

least_of : (a b : ℕ) (z : ℤ) → z ≡ pos a -ℤ negsuc b → is_int z ≡ false → 2 ^ 63 ≤ a + suc b
least_of a b (pos n) e h = omega (arith, ints, e, not_less_of n (2 ^ 63) h)
least_of a b (negsuc n) e h = absurd (omega (arith, ints, e))

most_of : (a b : ℕ) (z : ℤ) → z ≡ negsuc a -ℤ pos b → is_int z ≡ false → 2 ^ 63 ≤ a + b
most_of a b (negsuc n) e h = omega (arith, ints, e, not_less_of n (2 ^ 63) h)
most_of a b (pos n) e h = absurd (omega (arith, ints, e))

positive : (b : ℕ) → int_lt (pos 0) (pos (suc b)) ≡ true
positive b = by (int_lt (pos 0) (pos (suc b))) refl
  where
    by : (t : Bool) → int_lt (pos 0) (pos (suc b)) ≡ t → int_lt (pos 0) (pos (suc b)) ≡ true
    by true e = e
    by false e = absurd (omega (arith, ints, e))

pub sub_over : (x y : ℤ) → is_int x ≡ true → is_int y ≡ true → is_int (x -ℤ y) ≡ false → difference_value (word x) (word y) ≡ Raises trap.Overflow
sub_over (pos a) (negsuc b) p q h =
    let l = less_of a (2 ^ 63) p in
    let m = less_of b (2 ^ 63) q in
    let n = least_of a b (pos a -ℤ negsuc b) refl h in
    let made : op_word op.Sub a (2 ^ 64 - suc b) ≡ 2 ^ 64 - suc (2 ^ 64 - 1 - (a + suc b)) = omega (arith, l, m, n) in
    by_tests (op_word op.Slt 0 (2 ^ 64 - suc b)) (op_word op.Slt (op_word op.Sub a (2 ^ 64 - suc b)) a) (op_word op.Sub a (2 ^ 64 - suc b)) 0 1 (op_word op.Sub a (2 ^ 64 - suc b))
    (lt_words 0 (2 ^ 64 - suc b) (pos 0) (negsuc b) refl (to_z-neg w64 b m))
    (lt_words (op_word op.Sub a (2 ^ 64 - suc b)) a (negsuc (2 ^ 64 - 1 - (a + suc b))) (pos a) (ap (cast_signed w64) made ∙ to_z-neg w64 (2 ^ 64 - 1 - (a + suc b)) (omega (arith, l, m, n))) (to_z_pos w64 a l)) refl
sub_over (negsuc a) (pos zero) p q h = absurd (least_stays a (less_of a (2 ^ 63) p) (most_of a zero (negsuc a -ℤ pos zero) refl h))
  where
    least_stays : (a : ℕ) → a < 2 ^ 63 → 2 ^ 63 ≤ a + zero → ⊥
    least_stays a l m = omega (arith, l, m)
sub_over (negsuc a) (pos (suc b)) p q h =
    let l = less_of a (2 ^ 63) p in
    let m = less_of (suc b) (2 ^ 63) q in
    let n = most_of a (suc b) (negsuc a -ℤ pos (suc b)) refl h in
    let made : op_word op.Sub (2 ^ 64 - suc a) (suc b) ≡ 2 ^ 64 - suc a - suc b = omega (arith, l, m, n) in
    by_tests (op_word op.Slt 0 (suc b)) (op_word op.Slt (op_word op.Sub (2 ^ 64 - suc a) (suc b)) (2 ^ 64 - suc a)) (op_word op.Sub (2 ^ 64 - suc a) (suc b)) 1 0 (op_word op.Sub (2 ^ 64 - suc a) (suc b))
    (lt_words 0 (suc b) (pos 0) (pos (suc b)) refl (to_z_pos w64 (suc b) m) ∙ ap from_bool (positive b))
    (lt_words (op_word op.Sub (2 ^ 64 - suc a) (suc b)) (2 ^ 64 - suc a) (pos (2 ^ 64 - suc a - suc b)) (negsuc a) (ap (cast_signed w64) made ∙ to_z_pos w64 (2 ^ 64 - suc a - suc b) (omega (arith, l, m, n))) (to_z-neg w64 a l)) refl
sub_over (pos a) (pos b) p q h = absurd (near_pos a b (pos a -ℤ pos b) (less_of a (2 ^ 63) p) (less_of b (2 ^ 63) q) refl h)
sub_over (negsuc a) (negsuc b) p q h = absurd (near_neg a b (negsuc a -ℤ negsuc b) (less_of a (2 ^ 63) p) (less_of b (2 ^ 63) q) refl h)

-- ---- minus

minus_low : (u made : ℕ) → op_word op.Sub 0 u ≡ made → bit_and u made < 2 ^ 63 → negative_value u ≡ Gives made
minus_low u made e l = (λ i. same_or_over (op_word op.Slt (op_word op.And u (e i)) 0) 0 (e i)) ∙ ap (λ n. same_or_over n 0 made) (slt_low (bit_and u made) l)

pub minus_fits : (x : ℤ) → is_int x ≡ true → is_int (neg_ℤ x) ≡ true → negative_value (word x) ≡ Gives (word (neg_ℤ x))
minus_fits (pos zero) p h = refl
minus_fits (pos (suc a)) p h = let l = less_of (suc a) (2 ^ 63) p in
    minus_low (suc a) (2 ^ 64 - suc a) (omega (arith, l)) (omega (arith, and_le_l (suc a) (2 ^ 64 - suc a), l))
minus_fits (negsuc a) p h = let l = less_of (suc a) (2 ^ 63) h in
    minus_low (2 ^ 64 - suc a) (suc a) (omega (arith, l)) (omega (arith, and_le_r (2 ^ 64 - suc a) (suc a), l))

pub minus_over : (x : ℤ) → is_int x ≡ true → is_int (neg_ℤ x) ≡ false → negative_value (word x) ≡ Raises trap.Overflow
minus_over (pos zero) p h = never h
minus_over (pos (suc a)) p h = absurd (omega (arith, less_of (suc a) (2 ^ 63) p, not_less_of a (2 ^ 63) h))
minus_over (negsuc a) p h = ap (λ n. negative_value (2 ^ 64 - suc n)) (least a (less_of a (2 ^ 63) p) (not_less_of (suc a) (2 ^ 63) h))
  where
    least : (a : ℕ) → a < 2 ^ 63 → 2 ^ 63 ≤ suc a → a ≡ 2 ^ 63 - 1
    least a l m = omega (arith, l, m)
