-- Strings are compared byte by byte.
use Rattle.std.proofs.Common.{◌≡◌, ℕ, zero, suc, ◌+◌, ◌*◌, ◌<◌, Bool, inl, inr, List, [], ◌∷◌, length, Some, refl, sym, ap, ◌∙◌, arith}
use Rattle.std.specs.declared.cmp.Ordering.{Ordering}
use Rattle.std.specs.declared.cmp.Ordering.TheVariants as ordering
use Rattle.std.specs.Ordering.{MatchOrdering, nat_cmp, ordering_then}
use Rattle.std.specs.Cmp.{ranks}
use Rattle.std.specs.Cmp.Lexicographic.{slice_cmp}
use Rattle.clu_wir.specs.Plain.{Stmts, binary, set, slot, stmts_of, word}
use Rattle.clu_wir.specs.declared.expression.WOp.TheVariants as op
use Rattle.clu_wir.specs.Value.{View}
use Rattle.clu_word_meaning.specs.World.{World}
use Rattle.clu_word_meaning.specs.Words.{Body, Computation, Entry, Linked, Result, Slots, State, ended, exec_all, put_slot, returned, view}
use Rattle.clu_representation.specs.Layout.{Layout}
use Rattle.clu_representation.specs.Shown.{Bytes, bit}
use Rattle.clu_representation.specs.Stored.{Seen}
use Rattle.laws_operations.specs.LoopCodes.{compared_code, compared_round, gives, when}
use Rattle.laws_operations.proofs.Finding.{truth, untruth}
use Rattle.laws_operations.proofs.LoopLaw.{Round, loop_returns, searches}
use Rattle.laws_operations.proofs.LoopSteps.{Runs, at_end, at_most, first_ends, returns, set_then, skip_when}
use Rattle.laws_operations.proofs.LoopTexts.{Text, byte_at_place, byte_is, of_slots, one_further, other_word, same_word, slot_equals_size, word_is}

abbrev pub Anything : Slots → Type 0
Anything s = Unit {0}

module _ (outer : List Slots) (world : World) (l : Linked) (entries : ℕ → Entry) (body : Body) (live : ℕ) (map : Layout) (first : Slots) (seen : Seen map (view l first world)) where
  abbrev words : Slots → View
  words s = view l s world

  module _ (holds : Ordering → Bool) (less greater equal : ℕ) (le : less ≡ bit (holds ordering.Less)) (ge : greater ≡ bit (holds ordering.Greater)) (ee : equal ≡ bit (holds ordering.Equal))
      (s t : List ℕ) (u v : ℕ) (su : Text map (view l first world) s u) (tv : Text map (view l first world) t v) where
    abbrev whole : ℕ
    whole = bit (holds (slice_cmp nat_cmp s t))

    -- the place, and what is left of both strings there, by which the answer goes
    pub record Here (m : ℕ) (slots : Slots) : Type 0 where
      pub i : ℕ
      pub a : List ℕ
      pub b : List ℕ
      pub x_is : slots 0 ≡ Some u
      pub y_is : slots 1 ≡ Some v
      pub place_is : slots 3 ≡ Some i
      pub many : length a ≡ m
      pub of_x : length s ≡ i + length a
      pub of_y : length t ≡ i + length b
      pub a_bytes : Bytes map (u + 8) i a
      pub b_bytes : Bytes map (v + 8) i b
      pub answer : bit (holds (slice_cmp nat_cmp a b)) ≡ whole

    abbrev inner : Computation (Unit {0})
    inner = exec_all l entries body live (compared_round less greater equal)

    abbrev Ended : Slots → ℕ → ℕ → Type 0
    Ended slots turns steps = Runs outer world inner slots turns steps (λ k st. ended (returned (whole ∷ [])) k st) Anything

    -- the first string is at its end
    x_ended : (b : List ℕ) (i : ℕ) (slots : Slots) → slots 0 ≡ Some u → slots 1 ≡ Some v → slots 3 ≡ Some i → length s ≡ i + 0 → length t ≡ i + length b → bit (holds (slice_cmp nat_cmp [] b)) ≡ whole → Ended slots 9 30
    x_ended [] i slots p q r es et is = at_most outer world
        (first_ends outer world l entries body live _ _ _ _ (slot_equals_size (words slots) 3 0 i u (length s) r p su.size) (same_word i (length s) (omega (arith, es)))
        (first_ends outer world l entries body live _ _ _ _ (slot_equals_size (words slots) 3 1 i v (length t) r q tv.size) (same_word i (length t) (omega (arith, et)))
        (returns outer world l entries body live _ _ (word_is (words slots) equal whole (ee ∙ is)) tt))) (omega arith) (omega arith)
    x_ended (d ∷ b) i slots p q r es et is = at_most outer world
        (first_ends outer world l entries body live _ _ _ _ (slot_equals_size (words slots) 3 0 i u (length s) r p su.size) (same_word i (length s) (omega (arith, es)))
        (skip_when outer world l entries body live _ _ _ (slot_equals_size (words slots) 3 1 i v (length t) r q tv.size) (other_word i (length t) (λ e. omega (arith, e, et)))
        (returns outer world l entries body live _ _ (word_is (words slots) less whole (le ∙ is)) tt))) (omega arith) (omega arith)

    -- the second is, and the first isn't
    y_ended : (c : ℕ) (a : List ℕ) (i : ℕ) (slots : Slots) → slots 0 ≡ Some u → slots 1 ≡ Some v → slots 3 ≡ Some i → length s ≡ i + suc (length a) → length t ≡ i + 0 → bit (holds (slice_cmp nat_cmp (c ∷ a) [])) ≡ whole → Ended slots 9 30
    y_ended c a i slots p q r es et is = at_most outer world
        (skip_when outer world l entries body live _ _ _ (slot_equals_size (words slots) 3 0 i u (length s) r p su.size) (other_word i (length s) (λ e. omega (arith, e, es)))
        (first_ends outer world l entries body live _ _ _ _ (slot_equals_size (words slots) 3 1 i v (length t) r q tv.size) (same_word i (length t) (omega (arith, et)))
        (returns outer world l entries body live _ _ (word_is (words slots) greater whole (ge ∙ is)) tt))) (omega arith) (omega arith)

    abbrev both_read : Slots → ℕ → ℕ → Slots
    both_read slots c d = put_slot 5 d (put_slot 4 c slots)

    -- what a round does with two bytes
    abbrev rest : Stmts
    rest = stmts_of (
        when (binary op.Sltu (slot 4) (slot 5)) (gives (word less) ∷ []) ∷
        when (binary op.Sltu (slot 5) (slot 4)) (gives (word greater) ∷ []) ∷
        set 3 (binary op.Add (slot 3) (word 1)) ∷
        []
        )

    bytes_read : {turns steps : ℕ} {last : ℕ → State → Result (Unit {0})} {Left : Slots → Type 0} (c d i : ℕ) (a b : List ℕ) (slots : Slots) → slots 0 ≡ Some u → slots 1 ≡ Some v → slots 3 ≡ Some i →
        length s ≡ i + suc (length a) → length t ≡ i + suc (length b) → Bytes map (u + 8) i (c ∷ a) → Bytes map (v + 8) i (d ∷ b) →
        Runs outer world (exec_all l entries body live rest) (both_read slots c d) turns steps last Left → Runs outer world inner slots (suc (suc (suc (suc turns)))) (4 + (4 + (1 + (1 + steps)))) last Left
    bytes_read c d i a b slots p q r es et xs ys more =
        skip_when outer world l entries body live _ _ _ (slot_equals_size (words slots) 3 0 i u (length s) r p su.size) (other_word i (length s) (λ e. omega (arith, e, es)))
        (skip_when outer world l entries body live _ _ _ (slot_equals_size (words slots) 3 1 i v (length t) r q tv.size) (other_word i (length t) (λ e. omega (arith, e, et)))
        (set_then outer world l entries body live 4 _ _ (byte_is (words slots) 0 u i c p r (byte_at_place map (view l first world) seen u i (length s) c a su.end (omega (arith, es)) xs))
        (set_then outer world l entries body live 5 _ _ (byte_is (words (put_slot 4 c slots)) 1 v i d q r (byte_at_place map (view l first world) seen v i (length t) d b tv.end (omega (arith, et)) ys)) more)))

    both_left : (m c d i : ℕ) (a b : List ℕ) (slots : Slots) → slots 0 ≡ Some u → slots 1 ≡ Some v → slots 3 ≡ Some i → length a ≡ m →
        length s ≡ i + suc (length a) → length t ≡ i + suc (length b) → Bytes map (u + 8) i (c ∷ a) → Bytes map (v + 8) i (d ∷ b) → bit (holds (slice_cmp nat_cmp (c ∷ a) (d ∷ b))) ≡ whole →
        (o : Ordering) → nat_cmp c d ≡ o → MatchOrdering o (c < d) (c ≡ d) (d < c) → Round outer world inner slots 9 30 (returned (whole ∷ [])) Anything (Here m)
    both_left m c d i a b slots p q r n es et xs ys is ordering.Less e lt = inl (at_most outer world
        (bytes_read c d i a b slots p q r es et xs ys
        (first_ends outer world l entries body live _ _ _ _ (of_slots (words (both_read slots c d)) op.Sltu 4 5 c d refl refl) (truth c d lt)
        (returns outer world l entries body live _ _ (word_is (words (both_read slots c d)) less whole (le ∙ ap (λ o. bit (holds (ordering_then o (slice_cmp nat_cmp a b)))) (sym e) ∙ is)) tt))) (omega arith) (omega arith))
    both_left m c d i a b slots p q r n es et xs ys is ordering.Greater e lt = inl (at_most outer world
        (bytes_read c d i a b slots p q r es et xs ys
        (skip_when outer world l entries body live _ _ _ (of_slots (words (both_read slots c d)) op.Sltu 4 5 c d refl refl) (untruth c d (omega (arith, lt)))
        (first_ends outer world l entries body live _ _ _ _ (of_slots (words (both_read slots c d)) op.Sltu 5 4 d c refl refl) (truth d c lt)
        (returns outer world l entries body live _ _ (word_is (words (both_read slots c d)) greater whole (ge ∙ ap (λ o. bit (holds (ordering_then o (slice_cmp nat_cmp a b)))) (sym e) ∙ is)) tt)))) (omega arith) (omega arith))
    both_left m c d i a b slots p q r n es et xs ys is ordering.Equal e same = inr (at_most outer world
        (bytes_read c d i a b slots p q r es et xs ys
        (skip_when outer world l entries body live _ _ _ (of_slots (words (both_read slots c d)) op.Sltu 4 5 c d refl refl) (untruth c d (omega (arith, same)))
        (skip_when outer world l entries body live _ _ _ (of_slots (words (both_read slots c d)) op.Sltu 5 4 d c refl refl) (untruth d c (omega (arith, same)))
        (set_then outer world l entries body live 3 _ _ (one_further (words (both_read slots c d)) 3 i r (omega (arith, es, su.end)))
        (at_end outer world l entries body live (record {
          i = suc i;
          a = a;
          b = b;
          x_is = p;
          y_is = q;
          place_is = refl;
          many = n;
          of_x = omega (arith, es);
          of_y = omega (arith, et);
          a_bytes = xs.1;
          b_bytes = ys.1;
          answer = ap (λ o. bit (holds (ordering_then o (slice_cmp nat_cmp a b)))) (sym e) ∙ is;
        })))))) (omega arith) (omega arith))

    goes : (m : ℕ) (slots : Slots) → Here (suc m) slots → Round outer world inner slots 9 30 (returned (whole ∷ [])) Anything (Here m)
    goes m slots h = by h.a h.b h.many h.of_x h.of_y h.a_bytes h.b_bytes h.answer
      where
        by : (a b : List ℕ) → length a ≡ suc m → length s ≡ h.i + length a → length t ≡ h.i + length b → Bytes map (u + 8) h.i a → Bytes map (v + 8) h.i b → bit (holds (slice_cmp nat_cmp a b)) ≡ whole →
            Round outer world inner slots 9 30 (returned (whole ∷ [])) Anything (Here m)
        by [] b n es et xs ys is = absurd (omega (arith, n))
        by (c ∷ a) [] n es et xs ys is = inl (y_ended c a h.i slots h.x_is h.y_is h.place_is es et is)
        by (c ∷ a) (d ∷ b) n es et xs ys is = both_left m c d h.i a b slots h.x_is h.y_is h.place_is (omega (arith, n)) es et xs ys is (nat_cmp c d) refl (ranks c d)

    stops : (slots : Slots) → Here zero slots → Ended slots 9 30
    stops slots h = by h.a h.many h.of_x h.answer
      where
        by : (a : List ℕ) → length a ≡ zero → length s ≡ h.i + length a → bit (holds (slice_cmp nat_cmp a h.b)) ≡ whole → Ended slots 9 30
        by [] n es is = x_ended h.b h.i slots h.x_is h.y_is h.place_is es h.of_y is
        by (c ∷ a) n es is = absurd (omega (arith, n))

    pub compares : first 0 ≡ Some u → first 1 ≡ Some v → Runs outer world (exec_all l entries body live (compared_code less greater equal)) first (13 + 10 * length s) (37 + 32 * length s) (λ k st. ended (returned (whole ∷ [])) k st) Anything
    compares p q = at_most outer world
        (set_then outer world l entries body live 3 _ _ (word_is (words first) 0 0 refl)
        (loop_returns outer world l entries body live _ _ (searches outer world inner Here Anything (returned (whole ∷ [])) 9 30 goes stops (length s) (put_slot 3 0 first) (record {
          i = 0;
          a = s;
          b = t;
          x_is = p;
          y_is = q;
          place_is = refl;
          many = refl;
          of_x = omega arith;
          of_y = omega arith;
          a_bytes = su.bytes_are;
          b_bytes = tv.bytes_are;
          answer = refl;
        })))) (omega arith) (omega arith)
