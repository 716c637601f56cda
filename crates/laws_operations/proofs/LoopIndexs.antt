-- A string is searched for another one.
use Rattle.std.proofs.Common.{◌≡◌, ℕ, zero, suc, ◌+◌, ◌*◌, ◌%◌, ◌^◌, ◌<◌, ◌≤◌, ◌==◌, nat_lt, int_lt, nat_eq, Bool, true, false, ◌&&◌, pos, inl, inr, List, [], ◌∷◌, length, take, Some, refl, sym, ap, ◌∙◌, subst, arith, if◌then◌else◌, true≢false, ⊎_elim}
use Rattle.std.specs.Prelude.{codes}
use Rattle.std.specs.Int.{from_bool, w64}
use Rattle.std.specs.Cmp.Lexicographic.{pointwise, as_long}
use Rattle.std.proofs.lemmas.Bool.{cases_lt}
use Rattle.std.proofs.lemmas.Int.{to_z_pos}
use Rattle.clu_types.specs.CluType.{no_types, type_and, int_type, string_type}
use Rattle.clu_layout.specs.Actions.{World as Outside, counts, gives_all, gives_int, with_string}
use Rattle.clu_layout.specs.Objects.{Object}
use Rattle.clu_layout.specs.Places.{found_from}
use Rattle.clu_layout.specs.StringOperations.{string_indexs}
use Rattle.clu_wir.specs.Plain.{Stmts, binary, break_loop, byte, load, set, slot, stmts_of, word}
use Rattle.clu_wir.specs.declared.expression.WOp.TheVariants as op
use Rattle.clu_wir.specs.Value.{Gives, View, meant, op_word, value}
use Rattle.clu_word_meaning.specs.Levels.{arguments, entered, framed, inside}
use Rattle.clu_word_meaning.specs.World.{World}
use Rattle.clu_word_meaning.specs.Words.{Body, Computation, Entry, Linked, Result, Slots, State, broken, Ending, ended, exec_all, normal, put_slot, returned, view}
use Rattle.clu_representation.specs.Layout.{Image, Layout}
use Rattle.clu_representation.specs.Shown.{Bare, Bytes}
use Rattle.clu_representation.specs.Stored.{Seen}
use Rattle.laws_operations.specs.Comes.{InSlots}
use Rattle.laws_operations.specs.LoopCodes.{fits_round, indexs_round, indexs_row, unless}
use Rattle.laws_operations.specs.LoopRows.{StepsRight, routine_of}
use Rattle.laws_operations.proofs.Finding.{bytes_found, truth, untruth}
use Rattle.laws_operations.proofs.Results.{small_is_int}
use Rattle.laws_operations.proofs.LoopCompared.{Anything}
use Rattle.laws_operations.proofs.Words.{not_zero}
use Rattle.laws_operations.proofs.LoopEntering.{Within, returning, steps_do}
use Rattle.laws_operations.proofs.LoopLaw.{Round, loop_returns, loop_then, searches}
use Rattle.laws_operations.proofs.LoopSteps.{Runs, at_end, at_most, breaks, first_ends, other_ends, returns, set_then, skip_unless, skip_when}
use Rattle.laws_operations.proofs.LoopStrings.{two_of}
use Rattle.laws_operations.proofs.LoopTexts.{Text, byte_at_place, byte_is, equal_numbers, of_slots, one_further, other_numbers, other_word, same_word, slot_equals_size, text_of, word_is}
use Rattle.laws_operations.proofs.StringLoads.{as_string}

-- ---- where a string is found

abbrev begins : List ℕ → List ℕ → Bool
begins s a = pointwise nat_eq s (take (length s) a)

taken : (n : ℕ) (a : List ℕ) → length (take n a) ≤ length a
taken zero a = omega arith
taken (suc n) [] = omega arith
taken (suc n) (c ∷ a) = omega (arith, taken n a)

found_here : (p : ℕ) (s a : List ℕ) → length s ≤ length a → begins s a ≡ true → found_from p s a ≡ p
found_here p [] [] l e = refl
found_here p (c ∷ s) [] l e = absurd (omega (arith, l))
found_here p s (c ∷ a) l e = ap (λ (t : Bool). if t then p else found_from (suc p) s a) e

found_after : (p c : ℕ) (s a : List ℕ) → begins s (c ∷ a) ≡ false → found_from p s (c ∷ a) ≡ found_from (suc p) s a
found_after p c s a e = ap (λ (t : Bool). if t then p else found_from (suc p) s a) e

-- a string that is longer is nowhere
too_short : (p : ℕ) (s a : List ℕ) → length a < length s → found_from p s a ≡ 0
too_short p [] [] l = absurd (omega (arith, l))
too_short p (c ∷ s) [] l = ap (λ (t : Bool). if t then p else 0) (not_zero (suc (length s)) (omega arith))
too_short p s (c ∷ a) l = by (begins s (c ∷ a)) refl (too_short (suc p) s a (omega (arith, l)))
  where
    by : (t : Bool) → begins s (c ∷ a) ≡ t → found_from (suc p) s a ≡ 0 → (if begins s (c ∷ a) then p else found_from (suc p) s a) ≡ 0
    by true e h = absurd (omega (arith, l, as_long nat_eq s (take (length s) (c ∷ a)) e, taken (length s) (c ∷ a)))
    by false e h = ap (λ (t : Bool). if t then p else found_from (suc p) s a) e ∙ h

-- a place is in the string or after its last byte, or 0
found_below : (p : ℕ) (s a : List ℕ) → found_from p s a ≤ p + length a
found_below p [] [] = omega arith
found_below p (c ∷ s) [] = omega (arith, too_short p (c ∷ s) [] (omega arith))
found_below p s (c ∷ a) = by (begins s (c ∷ a)) (found_below (suc p) s a)
  where
    by : (t : Bool) → found_from (suc p) s a ≤ suc p + length a → (if t then p else found_from (suc p) s a) ≤ p + suc (length a)
    by true l = omega arith
    by false l = omega (arith, l)

-- ---- expressions

moved_byte : (view : View) (v z i c : ℕ) → view.slot 1 ≡ Some v → view.slot 2 ≡ Some z → view.slot 3 ≡ Some i → view.byte (op_word op.Add (op_word op.Add (op_word op.Add v 8) z) i) ≡ Some c →
    value view (byte (binary op.Add (binary op.Add (binary op.Add (slot 1) (word 8)) (slot 2)) (slot 3))) ≡ Gives c
unfolding meant
moved_byte view v z i c p q r e = rw (p, q, r, e) refl

past_end : (view : View) (u v z m n : ℕ) → view.slot 0 ≡ Some u → view.slot 1 ≡ Some v → view.slot 2 ≡ Some z → view.word ((u + 0) % 2 ^ 64) ≡ Some m → view.word ((v + 0) % 2 ^ 64) ≡ Some n →
    value view (binary op.Slt (load (slot 1) 0) (binary op.Add (slot 2) (load (slot 0) 0))) ≡ Gives (op_word op.Slt n (op_word op.Add z m))
unfolding meant
past_end view u v z m n p q r e f = rw (p, q, r, e, f) refl

less_signed : (n z m : ℕ) → n < 2 ^ 63 → z + m < 2 ^ 63 → op_word op.Slt n (op_word op.Add z m) ≡ from_bool (nat_lt n (z + m))
less_signed n z m l k = ap (λ x. op_word op.Slt n x) (whole z m k) ∙ (λ i. from_bool (int_lt (to_z_pos w64 n l i) (to_z_pos w64 (z + m) k i)))
  where
    whole : (z m : ℕ) → z + m < 2 ^ 63 → op_word op.Add z m ≡ z + m
    whole z m k = omega (arith, k)

byte_moved : (map : Layout) (view : View) (seen : Seen map view) (v z i n c : ℕ) (cs : List ℕ) → v + 8 + n ≤ 2 ^ 63 → z + i < n → Bytes map (v + 8) (z + i) (c ∷ cs) → view.byte (op_word op.Add (op_word op.Add (op_word op.Add v 8) z) i) ≡ Some c
byte_moved map view seen v z i n c cs l m h = ap view.byte (by v z i n l m) ∙ bytes_found map view seen (v + 8) (z + i) 0 c (c ∷ cs) h refl
  where
    by : (v z i n : ℕ) → v + 8 + n ≤ 2 ^ 63 → z + i < n → op_word op.Add (op_word op.Add (op_word op.Add v 8) z) i ≡ v + 8 + (z + i + 0)
    by v z i n l m = omega (arith, l, m)

module _ (outer : List Slots) (world : World) (l : Linked) (entries : ℕ → Entry) (body : Body) (live : ℕ) (map : Layout) (first : Slots) (seen : Seen map (view l first world)) where
  abbrev words : Slots → View
  words s = view l s world

  module _ (s t : List ℕ) (u v : ℕ) (su : Text map (view l first world) s u) (tv : Text map (view l first world) t v) where
    -- ---- whether the first string stands at a place of the second

    module _ (z : ℕ) (a : List ℕ) (of_t : length t ≡ z + length a) where
      -- what is left of both
      pub record Fitting (m : ℕ) (slots : Slots) : Type 0 where
        pub i : ℕ
        pub b : List ℕ
        pub c : List ℕ
        pub x_is : slots 0 ≡ Some u
        pub y_is : slots 1 ≡ Some v
        pub z_is : slots 2 ≡ Some z
        pub place_is : slots 3 ≡ Some i
        pub many : length b ≡ m
        pub enough : m ≤ length c
        pub of_x : length s ≡ i + m
        pub of_y : length a ≡ i + length c
        pub b_bytes : Bytes map (u + 8) i b
        pub c_bytes : Bytes map (v + 8) (z + i) c
        pub answer : begins b c ≡ begins s a

      -- the slots that stay
      pub record Moved (slots : Slots) : Type 0 where
        pub x_is : slots 0 ≡ Some u
        pub y_is : slots 1 ≡ Some v
        pub z_is : slots 2 ≡ Some z

      abbrev inner : Computation (Unit {0})
      inner = exec_all l entries body live fits_round

      abbrev both_read : Slots → ℕ → ℕ → Slots
      both_read slots d e = put_slot 5 e (put_slot 4 d slots)

      abbrev rest : Stmts
      rest = stmts_of (unless (binary op.Equal (slot 4) (slot 5)) (break_loop ∷ []) ∷ set 3 (binary op.Add (slot 3) (word 1)) ∷ [])

      bytes_read : {turns steps : ℕ} {last : ℕ → State → Result (Unit {0})} {Left : Slots → Type 0} (m d e i : ℕ) (b c : List ℕ) (slots : Slots) → slots 0 ≡ Some u → slots 1 ≡ Some v → slots 2 ≡ Some z → slots 3 ≡ Some i →
          length s ≡ i + suc m → length a ≡ i + suc (length c) → Bytes map (u + 8) i (d ∷ b) → Bytes map (v + 8) (z + i) (e ∷ c) →
          Runs outer world (exec_all l entries body live rest) (both_read slots d e) turns steps last Left → Runs outer world inner slots (suc (suc (suc turns))) (4 + (1 + (1 + steps))) last Left
      bytes_read m d e i b c slots p q o r es ea xs ys more =
          skip_when outer world l entries body live _ _ _ (slot_equals_size (words slots) 3 0 i u (length s) r p su.size) (other_word i (length s) (λ g. omega (arith, g, es)))
          (set_then outer world l entries body live 4 _ _ (byte_is (words slots) 0 u i d p r (byte_at_place map (view l first world) seen u i (length s) d b su.end (omega (arith, es)) xs))
          (set_then outer world l entries body live 5 _ _ (moved_byte (words (put_slot 4 d slots)) v z i e q o r (byte_moved map (view l first world) seen v z i (length t) e c tv.end (omega (arith, of_t, ea)) ys)) more))

      same_bytes : {end : Ending} {Left : Slots → Type 0} (m d e i : ℕ) (b c : List ℕ) (slots : Slots) → slots 0 ≡ Some u → slots 1 ≡ Some v → slots 2 ≡ Some z → slots 3 ≡ Some i →
          length b ≡ m → m ≤ length c → length s ≡ i + suc m → length a ≡ i + suc (length c) → Bytes map (u + 8) i (d ∷ b) → Bytes map (v + 8) (z + i) (e ∷ c) → begins (d ∷ b) (e ∷ c) ≡ begins s a → (d == e) ≡ true →
          Round outer world inner slots 9 30 end Left (Fitting m)
      same_bytes m d e i b c slots p q o r n k es ea xs ys is g = inr (at_most outer world
          (bytes_read m d e i b c slots p q o r es ea xs ys
          (skip_unless outer world l entries body live _ _ _ (of_slots (words (both_read slots d e)) op.Equal 4 5 d e refl refl) (same_word d e (equal_numbers d e g))
          (set_then outer world l entries body live 3 _ _ (one_further (words (both_read slots d e)) 3 i r (omega (arith, es, su.end)))
          (at_end outer world l entries body live (record {
            i = suc i;
            b = b;
            c = c;
            x_is = p;
            y_is = q;
            z_is = o;
            place_is = refl;
            many = n;
            enough = k;
            of_x = omega (arith, es);
            of_y = omega (arith, ea);
            b_bytes = xs.1;
            c_bytes = subst (λ n. Bytes map (v + 8) n c) (next z i) ys.1;
            answer = ap (λ (x : Bool). x && begins b c) (sym g) ∙ is;
          }))))) (omega arith) (omega arith))
        where
          next : (z i : ℕ) → suc (z + i) ≡ z + suc i
          next z i = omega arith

      module _ (fitting : begins s a ≡ true) where
        first_of_and : (x y : Bool) → x && y ≡ true → x ≡ true
        first_of_and true y e = refl
        first_of_and false y e = e

        fits_goes : (m : ℕ) (slots : Slots) → Fitting (suc m) slots → Round outer world inner slots 9 30 (returned (suc z ∷ [])) Anything (Fitting m)
        fits_goes m slots h = by h.b h.c h.many h.enough h.of_y h.b_bytes h.c_bytes h.answer
          where
            by : (b c : List ℕ) → length b ≡ suc m → suc m ≤ length c → length a ≡ h.i + length c → Bytes map (u + 8) h.i b → Bytes map (v + 8) (z + h.i) c → begins b c ≡ begins s a →
                Round outer world inner slots 9 30 (returned (suc z ∷ [])) Anything (Fitting m)
            by [] c n k ea xs ys is = absurd (omega (arith, n))
            by (d ∷ b) [] n k ea xs ys is = absurd (omega (arith, k))
            by (d ∷ b) (e ∷ c) n k ea xs ys is = same_bytes m d e h.i b c slots h.x_is h.y_is h.z_is h.place_is (omega (arith, n)) (omega (arith, k)) h.of_x ea xs ys is (first_of_and (d == e) (begins b c) (is ∙ fitting))

        fits_stops : z < 2 ^ 63 → (slots : Slots) → Fitting zero slots → Runs outer world inner slots 9 30 (λ k st. ended (returned (suc z ∷ [])) k st) Anything
        fits_stops l63 slots h = at_most outer world
            (first_ends outer world l entries body live _ _ _ _ (slot_equals_size (words slots) 3 0 h.i u (length s) h.place_is h.x_is su.size) (same_word h.i (length s) (omega (arith, h.of_x)))
            (returns outer world l entries body live _ _ (one_further (words slots) 2 z h.z_is l63) tt)) (omega arith) (omega arith)

      module _ (unfitting : begins s a ≡ false) where
        breaks_goes : (m : ℕ) (slots : Slots) → Fitting (suc m) slots → Round outer world inner slots 9 30 broken Moved (Fitting m)
        breaks_goes m slots h = by h.b h.c h.many h.enough h.of_y h.b_bytes h.c_bytes h.answer
          where
            by_bytes : (d e : ℕ) (b c : List ℕ) → length b ≡ m → m ≤ length c → length a ≡ h.i + suc (length c) → Bytes map (u + 8) h.i (d ∷ b) → Bytes map (v + 8) (z + h.i) (e ∷ c) → begins (d ∷ b) (e ∷ c) ≡ begins s a → (x : Bool) → (d == e) ≡ x →
                Round outer world inner slots 9 30 broken Moved (Fitting m)
            by_bytes d e b c n k ea xs ys is true g = same_bytes m d e h.i b c slots h.x_is h.y_is h.z_is h.place_is n k h.of_x ea xs ys is g
            by_bytes d e b c n k ea xs ys is false g = inl (at_most outer world
                (bytes_read m d e h.i b c slots h.x_is h.y_is h.z_is h.place_is h.of_x ea xs ys
                (other_ends outer world l entries body live _ _ _ _ (of_slots (words (both_read slots d e)) op.Equal 4 5 d e refl refl) (other_word d e (other_numbers d e g))
                (breaks outer world l entries body live _ (record { x_is = h.x_is; y_is = h.y_is; z_is = h.z_is })))) (omega arith) (omega arith))

            by : (b c : List ℕ) → length b ≡ suc m → suc m ≤ length c → length a ≡ h.i + length c → Bytes map (u + 8) h.i b → Bytes map (v + 8) (z + h.i) c → begins b c ≡ begins s a → Round outer world inner slots 9 30 broken Moved (Fitting m)
            by [] c n k ea xs ys is = absurd (omega (arith, n))
            by (d ∷ b) [] n k ea xs ys is = absurd (omega (arith, k))
            by (d ∷ b) (e ∷ c) n k ea xs ys is = by_bytes d e b c (omega (arith, n)) (omega (arith, k)) ea xs ys is (d == e) refl

        breaks_stops : (slots : Slots) → Fitting zero slots → Runs outer world inner slots 9 30 (λ k st. ended broken k st) Moved
        breaks_stops slots h = by h.b h.many h.answer
          where
            by : (b : List ℕ) → length b ≡ zero → begins b h.c ≡ begins s a → Runs outer world inner slots 9 30 (λ k st. ended broken k st) Moved
            by [] n is = absurd (true≢false (is ∙ unfitting))
            by (d ∷ b) n is = absurd (omega (arith, n))

    -- ---- the places, one after the other

    abbrev whole : ℕ
    whole = found_from 1 s t

    abbrev outer_round : Computation (Unit {0})
    outer_round = exec_all l entries body live indexs_round

    abbrev turns : ℕ
    turns = 10 * suc (length s) + 6

    abbrev steps : ℕ
    steps = 32 * suc (length s) + 12

    -- what is left of the second string at a place, where the first is sought
    pub record Along (m : ℕ) (slots : Slots) : Type 0 where
      pub z : ℕ
      pub a : List ℕ
      pub x_is : slots 0 ≡ Some u
      pub y_is : slots 1 ≡ Some v
      pub z_is : slots 2 ≡ Some z
      pub many : length a ≡ m
      pub of_y : length t ≡ z + length a
      pub no_word_over : z + length s < 2 ^ 63
      pub a_bytes : Bytes map (v + 8) z a
      pub answer : found_from (suc z) s a ≡ whole

    test_is : (m : ℕ) (slots : Slots) (h : Along m slots) → value (words slots) (binary op.Slt (load (slot 1) 0) (binary op.Add (slot 2) (load (slot 0) 0))) ≡ Gives (from_bool (nat_lt (length t) (h.z + length s)))
    test_is m slots h = past_end (words slots) u v h.z (length s) (length t) h.x_is h.y_is h.z_is su.size tv.size ∙ ap Gives (less_signed (length t) h.z (length s) (omega (arith, tv.end)) h.no_word_over)

    short_round : (m : ℕ) (slots : Slots) (h : Along m slots) → length h.a < length s → Runs outer world outer_round slots turns steps (λ k st. ended (returned (whole ∷ [])) k st) Anything
    short_round m slots h lt = at_most outer world
        (first_ends outer world l entries body live _ _ _ _ (test_is m slots h) (truth (length t) (h.z + length s) (omega (arith, lt, h.of_y)))
        (returns outer world l entries body live _ _ (word_is (words slots) 0 whole (sym (too_short (suc h.z) s h.a lt) ∙ h.answer)) tt)) (omega arith) (omega arith)

    from_start : (m : ℕ) (slots : Slots) (h : Along m slots) → length s ≤ length h.a → Fitting h.z h.a h.of_y (length s) (put_slot 3 0 slots)
    from_start m slots h le = record {
      i = 0;
      b = s;
      c = h.a;
      x_is = h.x_is;
      y_is = h.y_is;
      z_is = h.z_is;
      place_is = refl;
      many = refl;
      enough = le;
      of_x = omega arith;
      of_y = omega arith;
      b_bytes = su.bytes_are;
      c_bytes = subst (λ n. Bytes map (v + 8) n h.a) (none_more h.z) h.a_bytes;
      answer = refl;
    }
      where
        none_more : (z : ℕ) → z ≡ z + 0
        none_more z = omega arith

    found_round : (m : ℕ) (slots : Slots) (h : Along m slots) → length s ≤ length h.a → begins s h.a ≡ true → Runs outer world outer_round slots turns steps (λ k st. ended (returned (whole ∷ [])) k st) Anything
    found_round m slots h le fitting = subst (λ n. Runs outer world outer_round slots turns steps (λ k st. ended (returned (n ∷ [])) k st) Anything) (sym (found_here (suc h.z) s h.a le fitting) ∙ h.answer) (at_most outer world
        (skip_when outer world l entries body live _ _ _ (test_is m slots h) (untruth (length t) (h.z + length s) (omega (arith, le, h.of_y)))
        (set_then outer world l entries body live 3 _ _ (word_is (words slots) 0 0 refl)
        (loop_returns outer world l entries body live _ _ (searches outer world (exec_all l entries body live fits_round) (Fitting h.z h.a h.of_y) Anything (returned (suc h.z ∷ [])) 9 30
        (fits_goes h.z h.a h.of_y fitting) (fits_stops h.z h.a h.of_y fitting (omega (arith, h.no_word_over))) (length s) (put_slot 3 0 slots) (from_start m slots h le))))) (omega arith) (omega arith))

    moved_round : (m e : ℕ) (a : List ℕ) (slots : Slots) (h : Along (suc m) slots) → h.a ≡ e ∷ a → length s ≤ length h.a → begins s h.a ≡ false → Runs outer world outer_round slots turns steps (λ k st. normal tt k st) (Along m)
    moved_round m e a slots h is le unfitting = at_most outer world
        (skip_when outer world l entries body live _ _ _ (test_is (suc m) slots h) (untruth (length t) (h.z + length s) (omega (arith, le, h.of_y)))
        (set_then outer world l entries body live 3 _ _ (word_is (words slots) 0 0 refl)
        (loop_then outer world l entries body live _ _ (searches outer world (exec_all l entries body live fits_round) (Fitting h.z h.a h.of_y) (Moved h.z h.a h.of_y) broken 9 30
        (breaks_goes h.z h.a h.of_y unfitting) (breaks_stops h.z h.a h.of_y unfitting) (length s) (put_slot 3 0 slots) (from_start (suc m) slots h le)) (λ now k.
        set_then outer world l entries body live 2 _ _ (one_further (words now) 2 h.z k.z_is (omega (arith, h.no_word_over)))
        (at_end outer world l entries body live (record {
          z = suc h.z;
          a = a;
          x_is = k.x_is;
          y_is = k.y_is;
          z_is = refl;
          many = omega (arith, ap length is, h.many);
          of_y = omega (arith, ap length is, h.of_y);
          no_word_over = omega (arith, le, h.of_y, tv.end);
          a_bytes = (subst (λ c. Bytes map (v + 8) h.z c) is h.a_bytes).1;
          answer = sym (found_after (suc h.z) e s a (ap (begins s) (sym is) ∙ unfitting)) ∙ ap (found_from (suc h.z) s) (sym is) ∙ h.answer;
        })))))) (omega arith) (omega arith)

    goes : (m : ℕ) (slots : Slots) → Along (suc m) slots → Round outer world outer_round slots turns steps (returned (whole ∷ [])) Anything (Along m)
    goes m slots h = ⊎_elim (λ lt. inl (short_round (suc m) slots h lt)) (λ le. by le (begins s h.a) refl h.a refl) (cases_lt (length h.a) (length s))
      where
        by : length s ≤ length h.a → (x : Bool) → begins s h.a ≡ x → (c : List ℕ) → h.a ≡ c → Round outer world outer_round slots turns steps (returned (whole ∷ [])) Anything (Along m)
        by le true g c is = inl (found_round (suc m) slots h le g)
        by le false g [] is = absurd (omega (arith, ap length is, h.many))
        by le false g (e ∷ c) is = inr (moved_round m e c slots h is le g)

    stops : (slots : Slots) → Along zero slots → Runs outer world outer_round slots turns steps (λ k st. ended (returned (whole ∷ [])) k st) Anything
    stops slots h = ⊎_elim (λ lt. short_round zero slots h lt) (λ le. found_round zero slots h le (none s h.a (omega (arith, le, h.many)))) (cases_lt (length h.a) (length s))
      where
        none : (s a : List ℕ) → length s ≡ 0 → begins s a ≡ true
        none [] a e = refl
        none (c ∷ s) a e = absurd (omega (arith, e))

    pub seeks : first 0 ≡ Some u → first 1 ≡ Some v → Runs outer world (exec_all l entries body live indexs_row.body) first (2 + suc turns * suc (length t)) (1 + (2 + steps) * suc (length t)) (λ k st. ended (returned (whole ∷ [])) k st) Anything
    seeks p q = at_most outer world
        (set_then outer world l entries body live 2 _ _ (word_is (words first) 0 0 refl)
        (loop_returns outer world l entries body live _ _ (searches outer world outer_round Along Anything (returned (whole ∷ [])) turns steps goes stops (length t) (put_slot 2 0 first) (record {
          z = 0;
          a = t;
          x_is = p;
          y_is = q;
          z_is = refl;
          many = refl;
          of_y = omega arith;
          no_word_over = omega (arith, su.end);
          a_bytes = tv.bytes_are;
          answer = refl;
        })))) (omega arith) (omega arith)

module _ (image : Image) (map : Layout) (l : Linked) (entries : ℕ → Entry) (live : ℕ) (body : Body) (ws : List ℕ) (st : State) (seen : Seen map (view l (arguments ws) st.world)) (os : List Object)
    (shown : InSlots image map (view l (arguments ws) st.world) (type_and string_type (type_and string_type no_types)) 0 os) (fits : length ws ≡ 2) where
  within : (w : Outside) → Within image map (entered entries (Some (framed (routine_of indexs_row l))) live body ws) st (inside live (routine_of indexs_row l)) (type_and int_type no_types) w (string_indexs os w)
  unfolding counts gives_all
  within w =
      let P = Within image map (entered entries (Some (framed (routine_of indexs_row l))) live body ws) st (inside live (routine_of indexs_row l)) (type_and int_type no_types) w in
      two_of image map (view l (arguments ws) st.world) P string_type string_type (λ a b. with_string a (λ s. with_string b (λ t. counts ((length s + 1) * (length t + 1)) (gives_int (pos (found_from 1 s t)))))) os w shown (λ a b u v p q k m.
      as_string P tt a (λ s. with_string b (λ t. counts ((length s + 1) * (length t + 1)) (gives_int (pos (found_from 1 s t))))) w (λ s e.
      as_string P tt b (λ t. counts ((length s + 1) * (length t + 1)) (gives_int (pos (found_from 1 s t)))) w (λ t g.
      let one = text_of map (view l (arguments ws) st.world) seen s u (subst (λ o. Bare image map o u) e k) in
      let two = text_of map (view l (arguments ws) st.world) seen t v (subst (λ o. Bare image map o v) g m) in
      record {
        v = found_from 1 s t;
        work = (length s + 1) * (length t + 1);
        shown = record { is_one = small_is_int (found_from 1 s t) (omega (arith, found_below 1 s t, two.end)); word_is = refl };
        ran = returning l entries live body indexs_row ws st (ap (λ n. 2 == n) fits) (found_from 1 s t) (suc ((length s + 1) * (length t + 1))) (omega arith) (omega arith)
            (seeks st.outer st.world l entries body (inside live (routine_of indexs_row l)) map (arguments ws) seen s t u v one two p q);
        same = refl;
      })))

pub indexs_right : StepsRight string_type indexs_row
indexs_right image map l entries live body ws st os w around h fits = steps_do image map _ st _ string_type (codes "indexs") os w (within image map l entries live body ws st around.seen os h fits)
