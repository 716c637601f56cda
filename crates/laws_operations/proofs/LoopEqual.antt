-- Strings are told apart byte by byte where they are of one size.
use Rattle.std.proofs.Common.{◌≡◌, ℕ, zero, suc, ◌+◌, ◌*◌, ◌<◌, ◌==◌, Bool, true, false, inl, inr, List, [], ◌∷◌, length, Some, refl, sym, ap, ◌∙◌, arith}
use Rattle.std.specs.declared.cmp.Ordering.{Ordering}
use Rattle.std.specs.declared.cmp.Ordering.TheVariants as ordering
use Rattle.std.specs.Ordering.{MatchOrdering, is_eq, nat_cmp, ordering_then}
use Rattle.std.specs.Cmp.{ranks}
use Rattle.std.specs.Cmp.Lexicographic.{slice_cmp}
use Rattle.clu_wir.specs.Plain.{Stmts, binary, set, slot, stmts_of, word}
use Rattle.clu_wir.specs.declared.expression.WOp.TheVariants as op
use Rattle.clu_wir.specs.Value.{View}
use Rattle.clu_word_meaning.specs.World.{World}
use Rattle.clu_word_meaning.specs.Words.{Body, Computation, Entry, Linked, Result, Slots, State, ended, exec_all, put_slot, returned, view}
use Rattle.clu_representation.specs.Layout.{Layout}
use Rattle.clu_representation.specs.Shown.{Bytes, bit}
use Rattle.clu_representation.specs.Stored.{Seen}
use Rattle.laws_operations.specs.LoopCodes.{equal_code, equal_round, gives, unless}
use Rattle.laws_operations.proofs.LoopCompared.{Anything}
use Rattle.laws_operations.proofs.LoopLaw.{Round, loop_returns, searches}
use Rattle.laws_operations.proofs.LoopSteps.{Runs, at_end, at_most, first_ends, other_ends, returns, set_then, skip_unless, skip_when}
use Rattle.laws_operations.proofs.LoopTexts.{Text, byte_at_place, byte_is, equal_numbers, of_slots, one_further, other_numbers, other_word, same_word, sizes_equal, slot_equals_size, word_is}

other_sizes : (s t : List ℕ) → (length s ≡ length t → ⊥) → is_eq (slice_cmp nat_cmp s t) ≡ false
other_sizes [] [] k = absurd (k refl)
other_sizes [] (d ∷ t) k = refl
other_sizes (c ∷ s) [] k = refl
other_sizes (c ∷ s) (d ∷ t) k = by (nat_cmp c d) (other_sizes s t (λ e. k (ap suc e)))
  where
    by : (o : Ordering) → is_eq (slice_cmp nat_cmp s t) ≡ false → is_eq (ordering_then o (slice_cmp nat_cmp s t)) ≡ false
    by ordering.Less e = refl
    by ordering.Equal e = e
    by ordering.Greater e = refl

module _ (outer : List Slots) (world : World) (l : Linked) (entries : ℕ → Entry) (body : Body) (live : ℕ) (map : Layout) (first : Slots) (seen : Seen map (view l first world)) where
  abbrev words : Slots → View
  words s = view l s world

  module _ (s t : List ℕ) (u v : ℕ) (su : Text map (view l first world) s u) (tv : Text map (view l first world) t v) where
    abbrev whole : ℕ
    whole = bit (is_eq (slice_cmp nat_cmp s t))

    -- the place, and what is left of both strings there, by which the answer goes
    pub record Left (m : ℕ) (slots : Slots) : Type 0 where
      pub i : ℕ
      pub a : List ℕ
      pub b : List ℕ
      pub x_is : slots 0 ≡ Some u
      pub y_is : slots 1 ≡ Some v
      pub place_is : slots 3 ≡ Some i
      pub many : length a ≡ m
      pub as_many : length b ≡ m
      pub of_x : length s ≡ i + m
      pub of_y : length t ≡ i + m
      pub a_bytes : Bytes map (u + 8) i a
      pub b_bytes : Bytes map (v + 8) i b
      pub answer : bit (is_eq (slice_cmp nat_cmp a b)) ≡ whole

    abbrev inner : Computation (Unit {0})
    inner = exec_all l entries body live equal_round

    abbrev both_read : Slots → ℕ → ℕ → Slots
    both_read slots c d = put_slot 5 d (put_slot 4 c slots)

    abbrev rest : Stmts
    rest = stmts_of (unless (binary op.Equal (slot 4) (slot 5)) (gives (word 0) ∷ []) ∷ set 3 (binary op.Add (slot 3) (word 1)) ∷ [])

    bytes_read : {turns steps : ℕ} {last : ℕ → State → Result (Unit {0})} {Left : Slots → Type 0} (m c d i : ℕ) (a b : List ℕ) (slots : Slots) → slots 0 ≡ Some u → slots 1 ≡ Some v → slots 3 ≡ Some i →
        length s ≡ i + suc m → length t ≡ i + suc m → Bytes map (u + 8) i (c ∷ a) → Bytes map (v + 8) i (d ∷ b) →
        Runs outer world (exec_all l entries body live rest) (both_read slots c d) turns steps last Left → Runs outer world inner slots (suc (suc (suc turns))) (4 + (1 + (1 + steps))) last Left
    bytes_read m c d i a b slots p q r es et xs ys more =
        skip_when outer world l entries body live _ _ _ (slot_equals_size (words slots) 3 0 i u (length s) r p su.size) (other_word i (length s) (λ e. omega (arith, e, es)))
        (set_then outer world l entries body live 4 _ _ (byte_is (words slots) 0 u i c p r (byte_at_place map (view l first world) seen u i (length s) c a su.end (omega (arith, es)) xs))
        (set_then outer world l entries body live 5 _ _ (byte_is (words (put_slot 4 c slots)) 1 v i d q r (byte_at_place map (view l first world) seen v i (length t) d b tv.end (omega (arith, et)) ys)) more))

    differ : (m c d i : ℕ) (a b : List ℕ) (slots : Slots) → slots 0 ≡ Some u → slots 1 ≡ Some v → slots 3 ≡ Some i → length s ≡ i + suc m → length t ≡ i + suc m → Bytes map (u + 8) i (c ∷ a) → Bytes map (v + 8) i (d ∷ b) →
        (c ≡ d → ⊥) → 0 ≡ whole → Round outer world inner slots 9 30 (returned (whole ∷ [])) Anything (Left m)
    differ m c d i a b slots p q r es et xs ys k is = inl (at_most outer world
        (bytes_read m c d i a b slots p q r es et xs ys
        (other_ends outer world l entries body live _ _ _ _ (of_slots (words (both_read slots c d)) op.Equal 4 5 c d refl refl) (other_word c d k)
        (returns outer world l entries body live _ _ (word_is (words (both_read slots c d)) 0 whole is) tt))) (omega arith) (omega arith))

    both_left : (m c d i : ℕ) (a b : List ℕ) (slots : Slots) → slots 0 ≡ Some u → slots 1 ≡ Some v → slots 3 ≡ Some i → length a ≡ m → length b ≡ m →
        length s ≡ i + suc m → length t ≡ i + suc m → Bytes map (u + 8) i (c ∷ a) → Bytes map (v + 8) i (d ∷ b) → bit (is_eq (slice_cmp nat_cmp (c ∷ a) (d ∷ b))) ≡ whole →
        (o : Ordering) → nat_cmp c d ≡ o → MatchOrdering o (c < d) (c ≡ d) (d < c) → Round outer world inner slots 9 30 (returned (whole ∷ [])) Anything (Left m)
    both_left m c d i a b slots p q r n n2 es et xs ys is ordering.Less e lt =
        differ m c d i a b slots p q r es et xs ys (λ g. omega (arith, g, lt)) (ap (λ o. bit (is_eq (ordering_then o (slice_cmp nat_cmp a b)))) (sym e) ∙ is)
    both_left m c d i a b slots p q r n n2 es et xs ys is ordering.Greater e lt =
        differ m c d i a b slots p q r es et xs ys (λ g. omega (arith, g, lt)) (ap (λ o. bit (is_eq (ordering_then o (slice_cmp nat_cmp a b)))) (sym e) ∙ is)
    both_left m c d i a b slots p q r n n2 es et xs ys is ordering.Equal e same = inr (at_most outer world
        (bytes_read m c d i a b slots p q r es et xs ys
        (skip_unless outer world l entries body live _ _ _ (of_slots (words (both_read slots c d)) op.Equal 4 5 c d refl refl) (same_word c d same)
        (set_then outer world l entries body live 3 _ _ (one_further (words (both_read slots c d)) 3 i r (omega (arith, es, su.end)))
        (at_end outer world l entries body live (record {
          i = suc i;
          a = a;
          b = b;
          x_is = p;
          y_is = q;
          place_is = refl;
          many = n;
          as_many = n2;
          of_x = omega (arith, es);
          of_y = omega (arith, et);
          a_bytes = xs.1;
          b_bytes = ys.1;
          answer = ap (λ o. bit (is_eq (ordering_then o (slice_cmp nat_cmp a b)))) (sym e) ∙ is;
        }))))) (omega arith) (omega arith))

    goes : (m : ℕ) (slots : Slots) → Left (suc m) slots → Round outer world inner slots 9 30 (returned (whole ∷ [])) Anything (Left m)
    goes m slots h = by h.a h.b h.many h.as_many h.a_bytes h.b_bytes h.answer
      where
        by : (a b : List ℕ) → length a ≡ suc m → length b ≡ suc m → Bytes map (u + 8) h.i a → Bytes map (v + 8) h.i b → bit (is_eq (slice_cmp nat_cmp a b)) ≡ whole → Round outer world inner slots 9 30 (returned (whole ∷ [])) Anything (Left m)
        by [] b n n2 xs ys is = absurd (omega (arith, n))
        by (c ∷ a) [] n n2 xs ys is = absurd (omega (arith, n2))
        by (c ∷ a) (d ∷ b) n n2 xs ys is = both_left m c d h.i a b slots h.x_is h.y_is h.place_is (omega (arith, n)) (omega (arith, n2)) h.of_x h.of_y xs ys is (nat_cmp c d) refl (ranks c d)

    stops : (slots : Slots) → Left zero slots → Runs outer world inner slots 9 30 (λ k st. ended (returned (whole ∷ [])) k st) Anything
    stops slots h = by h.a h.b h.many h.as_many h.answer
      where
        by : (a b : List ℕ) → length a ≡ zero → length b ≡ zero → bit (is_eq (slice_cmp nat_cmp a b)) ≡ whole → Runs outer world inner slots 9 30 (λ k st. ended (returned (whole ∷ [])) k st) Anything
        by [] [] n n2 is = at_most outer world
            (first_ends outer world l entries body live _ _ _ _ (slot_equals_size (words slots) 3 0 h.i u (length s) h.place_is h.x_is su.size) (same_word h.i (length s) (omega (arith, h.of_x)))
            (returns outer world l entries body live _ _ (word_is (words slots) 1 whole is) tt)) (omega arith) (omega arith)
        by [] (d ∷ b) n n2 is = absurd (omega (arith, n2))
        by (c ∷ a) b n n2 is = absurd (omega (arith, n))

    pub tells : first 0 ≡ Some u → first 1 ≡ Some v → Runs outer world (exec_all l entries body live equal_code) first (13 + 10 * length s) (37 + 32 * length s) (λ k st. ended (returned (whole ∷ [])) k st) Anything
    tells p q = by (length s == length t) refl
      where
        by : (b : Bool) → (length s == length t) ≡ b → Runs outer world (exec_all l entries body live equal_code) first (13 + 10 * length s) (37 + 32 * length s) (λ k st. ended (returned (whole ∷ [])) k st) Anything
        by true e = at_most outer world
            (skip_unless outer world l entries body live _ _ _ (sizes_equal (words first) u v (length s) (length t) p q su.size tv.size) (same_word (length s) (length t) (equal_numbers (length s) (length t) e))
            (set_then outer world l entries body live 3 _ _ (word_is (words first) 0 0 refl)
            (loop_returns outer world l entries body live _ _ (searches outer world inner Left Anything (returned (whole ∷ [])) 9 30 goes stops (length s) (put_slot 3 0 first) (record {
              i = 0;
              a = s;
              b = t;
              x_is = p;
              y_is = q;
              place_is = refl;
              many = refl;
              as_many = sym (equal_numbers (length s) (length t) e);
              of_x = omega arith;
              of_y = omega (arith, equal_numbers (length s) (length t) e);
              a_bytes = su.bytes_are;
              b_bytes = tv.bytes_are;
              answer = refl;
            }))))) (omega arith) (omega arith)
        by false e = at_most outer world
            (other_ends outer world l entries body live _ _ _ _ (sizes_equal (words first) u v (length s) (length t) p q su.size tv.size) (other_word (length s) (length t) (other_numbers (length s) (length t) e))
            (returns outer world l entries body live _ _ (word_is (words first) 0 whole (ap bit (sym (other_sizes s t (other_numbers (length s) (length t) e))))) tt)) (omega arith) (omega arith)
