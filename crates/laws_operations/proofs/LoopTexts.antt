-- Strings that a loop goes over, byte by byte: what its expressions are worth.
use Rattle.std.proofs.Common.{◌≡◌, ℕ, suc, ◌+◌, ◌%◌, ◌^◌, ◌<◌, ◌≤◌, ◌==◌, Bool, true, false, List, ◌∷◌, length, Some, refl, ap, ◌∙◌, arith}
use Rattle.std.specs.Int.{from_bool}
use Rattle.clu_wir.specs.Plain.{binary, byte, load, slot, word}
use Rattle.clu_wir.specs.declared.expression.WOp.{WOp}
use Rattle.clu_wir.specs.declared.expression.WOp.TheVariants as op
use Rattle.clu_wir.specs.Value.{Gives, View, meant, op_word, value}
use Rattle.clu_representation.specs.Layout.{Layout}
use Rattle.clu_representation.specs.Shown.{Bytes, IsString}
use Rattle.clu_representation.specs.Stored.{Seen}
use Rattle.laws_operations.proofs.Finding.{bytes_below, bytes_found, fixed_found, fixed_is_somebodys}

pub same_word : (i n : ℕ) → i ≡ n → (op_word op.Equal i n == 0) ≡ false
same_word i n e = by (i == n) refl
  where
    by : (t : Bool) → (i == n) ≡ t → (op_word op.Equal i n == 0) ≡ false
    by true g = ap (λ t. from_bool t == 0) g
    by false g = absurd (grind arith)

pub equal_numbers : (u v : ℕ) → (u == v) ≡ true → u ≡ v
equal_numbers u v e = grind arith

pub other_numbers : (u v : ℕ) → (u == v) ≡ false → u ≡ v → ⊥
other_numbers u v e g = grind arith

pub other_word : (i n : ℕ) → (i ≡ n → ⊥) → (op_word op.Equal i n == 0) ≡ true
other_word i n k = by (i == n) refl
  where
    by : (t : Bool) → (i == n) ≡ t → (op_word op.Equal i n == 0) ≡ true
    by true g = absurd (k (equal_numbers i n g))
    by false g = ap (λ t. from_bool t == 0) g

pub further : (i : ℕ) → i < 2 ^ 63 → op_word op.Add i 1 ≡ suc i
further i l = omega (arith, l)

-- what a string is where code reads it
pub record Text (map : Layout) (view : View) (bytes : List ℕ) (u : ℕ) : Type 0 where
  pub size : view.word ((u + 0) % 2 ^ 64) ≡ Some (length bytes)
  pub end : u + 8 + length bytes ≤ 2 ^ 63
  pub bytes_are : Bytes map (u + 8) 0 bytes

pub text_of : (map : Layout) (view : View) (seen : Seen map view) (bytes : List ℕ) (u : ℕ) → IsString map bytes u → Text map view bytes u
text_of map view seen bytes u s = record {
  size = fixed_found map view seen u 0 u (length bytes) (plus_none u) s.size;
  end = omega (arith, bytes_below map view seen (u + 8) 0 bytes (omega (arith, seen.below u (fixed_is_somebodys map u (length bytes) s.size))) s.bytes_are);
  bytes_are = s.bytes_are;
}
  where
    plus_none : (u : ℕ) → u ≡ u + 0
    plus_none u = omega arith

-- the next byte of what is left from a place on
pub byte_at_place : (map : Layout) (view : View) (seen : Seen map view) (u i n c : ℕ) (cs : List ℕ) → u + 8 + n ≤ 2 ^ 63 → i < n → Bytes map (u + 8) i (c ∷ cs) → view.byte (op_word op.Add (op_word op.Add u 8) i) ≡ Some c
byte_at_place map view seen u i n c cs l m h = ap view.byte (by u i n l m) ∙ bytes_found map view seen (u + 8) i 0 c (c ∷ cs) h refl
  where
    by : (u i n : ℕ) → u + 8 + n ≤ 2 ^ 63 → i < n → op_word op.Add (op_word op.Add u 8) i ≡ u + 8 + (i + 0)
    by u i n l m = omega (arith, l, m)

-- ---- expressions

pub slot_equals_size : (view : View) (k n i u m : ℕ) → view.slot k ≡ Some i → view.slot n ≡ Some u → view.word ((u + 0) % 2 ^ 64) ≡ Some m → value view (binary op.Equal (slot k) (load (slot n) 0)) ≡ Gives (op_word op.Equal i m)
unfolding meant
slot_equals_size view k n i u m p q e = rw (p, q, e) refl

pub sizes_equal : (view : View) (u v m n : ℕ) → view.slot 0 ≡ Some u → view.slot 1 ≡ Some v → view.word ((u + 0) % 2 ^ 64) ≡ Some m → view.word ((v + 0) % 2 ^ 64) ≡ Some n →
    value view (binary op.Equal (load (slot 0) 0) (load (slot 1) 0)) ≡ Gives (op_word op.Equal m n)
unfolding meant
sizes_equal view u v m n p q e f = rw (p, q, e, f) refl

pub byte_is : (view : View) (n u i c : ℕ) → view.slot n ≡ Some u → view.slot 3 ≡ Some i → view.byte (op_word op.Add (op_word op.Add u 8) i) ≡ Some c →
    value view (byte (binary op.Add (binary op.Add (slot n) (word 8)) (slot 3))) ≡ Gives c
unfolding meant
byte_is view n u i c p q e = rw (p, q, e) refl

pub of_slots : (view : View) (o : WOp) (k n a b : ℕ) → view.slot k ≡ Some a → view.slot n ≡ Some b → value view (binary o (slot k) (slot n)) ≡ Gives (op_word o a b)
unfolding meant
of_slots view o k n a b p q = rw (p, q) refl

pub one_further : (view : View) (n i : ℕ) → view.slot n ≡ Some i → i < 2 ^ 63 → value view (binary op.Add (slot n) (word 1)) ≡ Gives (suc i)
unfolding meant
one_further view n i p l = rw p (ap Gives (further i l))

pub word_is : (view : View) (a b : ℕ) → a ≡ b → value view (word a) ≡ Gives b
unfolding meant
word_is view a b e = ap Gives e

pub slot_word : (view : View) (n a b : ℕ) → view.slot n ≡ Some a → a ≡ b → value view (slot n) ≡ Gives b
unfolding meant
slot_word view n a b p e = rw p (ap Gives e)
