-- Ints and chars are compared as their words are.
use Rattle.std.proofs.Common.{◌≡◌, ℕ, ◌<◌, Bool, true, false, not, refl, sym, ap, ◌∙◌, arith, ◌==◌, ℤ, pos, ◌<ℤ◌, int_lt, bit_xor}
use Rattle.std.specs.Int.{w64, cast_signed, from_bool}
use Rattle.std.specs.declared.cmp.Ordering.{Ordering}
use Rattle.std.specs.declared.cmp.Ordering.TheVariants as ordering
use Rattle.std.specs.Ordering.{MatchOrdering, is_lt, is_le, is_eq, is_ge, is_gt, nat_cmp, int_cmp}
use Rattle.std.specs.Cmp.{int_ranks, nat_cmp_is}
use Rattle.std.proofs.lemmas.Int.{ints}
use Rattle.clu_layout.specs.Places.{is_int}
use Rattle.clu_wir.specs.declared.expression.WOp.TheVariants as op
use Rattle.clu_wir.specs.Value.{op_word}
use Rattle.clu_representation.specs.Shown.{IsInt, bit}
use Rattle.laws_operations.proofs.Words.{word}
use Rattle.laws_operations.proofs.Results.{read_word}

pub bit_word : (t : Bool) → from_bool t ≡ bit t
bit_word true = refl
bit_word false = refl

turned_word : (t : Bool) → bit_xor (from_bool t) 1 ≡ bit (not t)
turned_word true = refl
turned_word false = refl

-- ---- tests on what a comparison answers

abbrev Answer : ℤ → ℤ → Ordering → Type 0
Answer x y o = MatchOrdering o (x <ℤ y) (x ≡ y) (y <ℤ x)

less : (x y : ℤ) (o : Ordering) (t : Bool) → Answer x y o → int_lt x y ≡ t → is_lt o ≡ t
less x y ordering.Less true h e = refl
less x y ordering.Less false h e = absurd (omega (arith, ints, h, e))
less x y ordering.Equal true h e = absurd (omega (arith, ints, h, e))
less x y ordering.Equal false h e = refl
less x y ordering.Greater true h e = absurd (omega (arith, ints, h, e))
less x y ordering.Greater false h e = refl

greater : (x y : ℤ) (o : Ordering) (t : Bool) → Answer x y o → int_lt y x ≡ t → is_gt o ≡ t
greater x y ordering.Less true h e = absurd (omega (arith, ints, h, e))
greater x y ordering.Less false h e = refl
greater x y ordering.Equal true h e = absurd (omega (arith, ints, h, e))
greater x y ordering.Equal false h e = refl
greater x y ordering.Greater true h e = refl
greater x y ordering.Greater false h e = absurd (omega (arith, ints, h, e))

not_greater : (o : Ordering) → is_le o ≡ not (is_gt o)
not_greater ordering.Less = refl
not_greater ordering.Equal = refl
not_greater ordering.Greater = refl

not_less : (o : Ordering) → is_ge o ≡ not (is_lt o)
not_less ordering.Less = refl
not_less ordering.Equal = refl
not_less ordering.Greater = refl

pub is_lt_int : (x y : ℤ) → is_lt (int_cmp x y) ≡ int_lt x y
is_lt_int x y = less x y (int_cmp x y) (int_lt x y) (int_ranks x y) refl

pub is_gt_int : (x y : ℤ) → is_gt (int_cmp x y) ≡ int_lt y x
is_gt_int x y = greater x y (int_cmp x y) (int_lt y x) (int_ranks x y) refl

-- ---- ints

slt_is : (x y : ℤ) (u v : ℕ) → IsInt x u → IsInt y v → op_word op.Slt u v ≡ from_bool (int_lt x y)
slt_is x y u v h k = λ i. from_bool (int_lt (read_word x u h.is_one h.word_is i) (read_word y v k.is_one k.word_is i))

pub lt_word : (x y : ℤ) (u v : ℕ) → IsInt x u → IsInt y v → op_word op.Slt u v ≡ bit (is_lt (int_cmp x y))
lt_word x y u v h k = slt_is x y u v h k ∙ bit_word (int_lt x y) ∙ ap bit (sym (is_lt_int x y))

pub gt_word : (x y : ℤ) (u v : ℕ) → IsInt x u → IsInt y v → op_word op.Slt v u ≡ bit (is_gt (int_cmp x y))
gt_word x y u v h k = slt_is y x v u k h ∙ bit_word (int_lt y x) ∙ ap bit (sym (is_gt_int x y))

pub le_word : (x y : ℤ) (u v : ℕ) → IsInt x u → IsInt y v → op_word op.Xor (op_word op.Slt v u) 1 ≡ bit (is_le (int_cmp x y))
le_word x y u v h k = ap (λ n. bit_xor n 1) (slt_is y x v u k h) ∙ turned_word (int_lt y x) ∙ ap (λ t. bit (not t)) (sym (is_gt_int x y)) ∙ ap bit (sym (not_greater (int_cmp x y)))

pub ge_word : (x y : ℤ) (u v : ℕ) → IsInt x u → IsInt y v → op_word op.Xor (op_word op.Slt u v) 1 ≡ bit (is_ge (int_cmp x y))
ge_word x y u v h k = ap (λ n. bit_xor n 1) (slt_is x y u v h k) ∙ turned_word (int_lt x y) ∙ ap (λ t. bit (not t)) (sym (is_lt_int x y)) ∙ ap bit (sym (not_less (int_cmp x y)))

pub equal_numbers : (u v : ℕ) → (u == v) ≡ true → u ≡ v
equal_numbers u v e = grind arith

same_numbers : (u v : ℕ) → (u == v) ≡ false → u ≡ v → ⊥
same_numbers u v e g = grind arith

equal_ints : (x y : ℤ) (u v : ℕ) → IsInt x u → IsInt y v → (o : Ordering) (t : Bool) → Answer x y o → (u == v) ≡ t → is_eq o ≡ t
equal_ints x y u v h k ordering.Equal true r e = refl
equal_ints x y u v h k ordering.Equal false r e = absurd (same_numbers u v e (h.word_is ∙ ap word r ∙ sym k.word_is))
equal_ints x y u v h k ordering.Less false r e = refl
equal_ints x y u v h k ordering.Less true r e = absurd (omega (arith, ints, r, sym (read_word x u h.is_one h.word_is) ∙ ap (cast_signed w64) (equal_numbers u v e) ∙ read_word y v k.is_one k.word_is))
equal_ints x y u v h k ordering.Greater false r e = refl
equal_ints x y u v h k ordering.Greater true r e = absurd (omega (arith, ints, r, sym (read_word x u h.is_one h.word_is) ∙ ap (cast_signed w64) (equal_numbers u v e) ∙ read_word y v k.is_one k.word_is))

pub eq_word : (x y : ℤ) (u v : ℕ) → IsInt x u → IsInt y v → op_word op.Equal u v ≡ bit (is_eq (int_cmp x y))
eq_word x y u v h k = bit_word (u == v) ∙ ap bit (sym (equal_ints x y u v h k (int_cmp x y) (u == v) (int_ranks x y) refl))

-- ---- chars are ints that aren't negative

pub char_int : (c : ℕ) → c < 256 → IsInt (pos c) c
char_int c l = record { is_one = by c l; word_is = refl }
  where
    by : (c : ℕ) → c < 256 → is_int (pos c) ≡ true
    by c l = grind arith

without_sign : (c d : ℕ) (o : Ordering) → Answer (pos c) (pos d) o → MatchOrdering o (c < d) (c ≡ d) (d < c)
without_sign c d ordering.Less h = omega (arith, ints, h)
without_sign c d ordering.Equal h = omega (arith, ints, h)
without_sign c d ordering.Greater h = omega (arith, ints, h)

pub same_answer : (c d : ℕ) → int_cmp (pos c) (pos d) ≡ nat_cmp c d
same_answer c d = nat_cmp_is c d (int_cmp (pos c) (pos d)) (without_sign c d (int_cmp (pos c) (pos d)) (int_ranks (pos c) (pos d)))
