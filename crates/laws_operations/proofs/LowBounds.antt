-- Bounds of arrays that stay ints, and how code tells.
use Rattle.std.proofs.Common.{◌≡◌, ℕ, ℤ, pos, negsuc, suc, ◌-◌, ◌^◌, ◌<◌, ◌≤◌, ◌≢◌, Bool, true, false, ◌==◌, nat_lt, int_lt, ◌+ℤ◌, ◌-ℤ◌, refl, ap, ◌∙◌, arith}
use Rattle.std.specs.Int.{w64, cast_signed, from_bool}
use Rattle.std.proofs.lemmas.Int.{ints, to_z_pos, to_z-of_z}
use mir.ValLaws.{to_z-neg}
use Rattle.clu_layout.specs.Places.{is_int}
use Rattle.clu_wir.specs.declared.expression.WOp.TheVariants as op
use Rattle.clu_wir.specs.Value.{op_word}
use Rattle.laws_operations.proofs.ArrayLoads.{high_word}
use Rattle.laws_operations.proofs.Results.{fits_of, less_of, not_less_of, small_is_int}
use Rattle.laws_operations.proofs.Words.{word}

large : (m : ℕ) → 2 ^ 63 ≤ m → nat_lt m (2 ^ 63) ≡ false
large m l = grind arith

-- the least int has none below it
pub below_least : (low z : ℤ) → is_int low ≡ true → word low ≡ 2 ^ 63 → z ≡ low -ℤ pos 1 → is_int z ≡ false
below_least (pos a) z p e f = absurd (omega (arith, ints, e, less_of a (2 ^ 63) p))
below_least (negsuc a) (pos m) p e f = absurd (omega (arith, ints, e, f, less_of a (2 ^ 63) p))
below_least (negsuc a) (negsuc m) p e f = large m (omega (arith, ints, e, f, less_of a (2 ^ 63) p))

-- each other int has one
pub below_others : (low z : ℤ) → is_int low ≡ true → word low ≢ 2 ^ 63 → z ≡ low -ℤ pos 1 → is_int z ≡ true
below_others (pos a) (pos m) p k f = small_is_int m (omega (arith, ints, f, less_of a (2 ^ 63) p))
below_others (pos a) (negsuc m) p k f = small_is_int m (omega (arith, ints, f, less_of a (2 ^ 63) p))
below_others (negsuc a) (pos m) p k f = absurd (omega (arith, ints, f, less_of a (2 ^ 63) p))
below_others (negsuc a) (negsuc m) p k f = small_is_int m (below_it a m (less_of a (2 ^ 63) p) k f)
  where
    below_it : (a m : ℕ) → a < 2 ^ 63 → word (negsuc a) ≢ 2 ^ 63 → negsuc m ≡ negsuc a -ℤ pos 1 → m < 2 ^ 63
    below_it a m l k f = by (suc a == 2 ^ 63) refl
      where
        by : (t : Bool) → (suc a == 2 ^ 63) ≡ t → m < 2 ^ 63
        by true e = absurd (k (omega (arith, ints, l, same (suc a) (2 ^ 63) e)))
          where
            same : (x y : ℕ) → (x == y) ≡ true → x ≡ y
            same x y e = grind arith
        by false e = omega (arith, ints, l, f, other (suc a) (2 ^ 63) e)
          where
            other : (x y : ℕ) → (x == y) ≡ false → x ≢ y
            other x y e f = absurd (grind arith)

-- ---- the place after the last element

one_below : (low b : ℤ) → is_int low ≡ true → is_int b ≡ true → b ≡ low -ℤ pos 1 → op_word op.Sub (word low) 1 ≡ word b
one_below (pos a) (pos m) p h e = omega (arith, ints, e, less_of a (2 ^ 63) p, less_of m (2 ^ 63) h)
one_below (pos a) (negsuc m) p h e = omega (arith, ints, e, less_of a (2 ^ 63) p, less_of m (2 ^ 63) h)
one_below (negsuc a) (pos m) p h e = omega (arith, ints, e, less_of a (2 ^ 63) p, less_of m (2 ^ 63) h)
one_below (negsuc a) (negsuc m) p h e = omega (arith, ints, e, less_of a (2 ^ 63) p, less_of m (2 ^ 63) h)

abbrev pub past : ℕ → ℕ → ℕ
past v n = op_word op.Slt (op_word op.Sub (op_word op.Add v n) 1) (op_word op.Sub v 1)

by_ints : (u v : ℕ) (x y : ℤ) → cast_signed w64 u ≡ x → cast_signed w64 v ≡ y → op_word op.Slt u v ≡ from_bool (int_lt x y)
by_ints u v x y p q = λ i. from_bool (int_lt (p i) (q i))

pub not_past : (low z : ℤ) (n : ℕ) → is_int low ≡ true → word low ≢ 2 ^ 63 → n < 2 ^ 61 → z ≡ (low +ℤ pos n) -ℤ pos 1 → is_int z ≡ true → past (word low) n ≡ 0
not_past low z n p k l e h =
    let b = low -ℤ pos 1 in
    let fits : is_int b ≡ true = below_others low b p k refl in
    by_ints (op_word op.Sub (op_word op.Add (word low) n) 1) (op_word op.Sub (word low) 1) z b
    (ap (cast_signed w64) (high_word low z n p l e h) ∙ to_z-of_z w64 z (fits_of z h))
    (ap (cast_signed w64) (one_below low b p fits refl) ∙ to_z-of_z w64 b (fits_of b fits))
    ∙ ap from_bool (no_less (int_lt z b) refl)
  where
    no_less : (t : Bool) → int_lt z (low -ℤ pos 1) ≡ t → int_lt z (low -ℤ pos 1) ≡ false
    no_less true f = absurd (omega (arith, ints, f, e))
    no_less false f = f

pub is_past_it : (low z : ℤ) (n : ℕ) → is_int low ≡ true → word low ≢ 2 ^ 63 → n < 2 ^ 61 → z ≡ (low +ℤ pos n) -ℤ pos 1 → is_int z ≡ false → past (word low) n ≡ 1
is_past_it (pos a) (pos m) n p k l e h =
    let big = not_less_of m (2 ^ 63) h in
    let small_a = less_of a (2 ^ 63) p in
    let sum : op_word op.Sub (op_word op.Add (word (pos a)) n) 1 ≡ 2 ^ 64 - suc (2 ^ 64 - 1 - m) = omega (arith, ints, e, big, small_a, l) in
    let less : op_word op.Sub (word (pos a)) 1 ≡ a - 1 = omega (arith, ints, e, big, small_a, l) in
    by_ints (op_word op.Sub (op_word op.Add (word (pos a)) n) 1) (op_word op.Sub (word (pos a)) 1) (negsuc (2 ^ 64 - 1 - m)) (pos (a - 1))
    (ap (cast_signed w64) sum ∙ to_z-neg w64 (2 ^ 64 - 1 - m) (omega (arith, big)))
    (ap (cast_signed w64) less ∙ to_z_pos w64 (a - 1) (omega (arith, small_a)))
is_past_it (pos a) (negsuc m) n p k l e h = absurd (omega (arith, ints, e, not_less_of m (2 ^ 63) h))
is_past_it (negsuc a) (pos m) n p k l e h = absurd (omega (arith, ints, e, not_less_of m (2 ^ 63) h, l))
is_past_it (negsuc a) (negsuc m) n p k l e h = absurd (k (omega (arith, ints, e, not_less_of m (2 ^ 63) h, less_of a (2 ^ 63) p)))
