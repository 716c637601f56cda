-- A string is searched for a character.
use Rattle.std.proofs.Common.{◌≡◌, ℕ, zero, suc, ◌+◌, ◌*◌, ◌≤◌, ◌==◌, Bool, true, false, ◌&&◌, pos, inl, inr, List, [], ◌∷◌, length, Some, refl, sym, ap, ◌∙◌, subst, arith, if◌then◌else◌}
use Rattle.std.specs.Prelude.{codes}
use Rattle.clu_types.specs.CluType.{no_types, type_and, char_type, int_type, string_type}
use Rattle.clu_layout.specs.Actions.{World as Outside, counts, gives_all, gives_int, with_char, with_string}
use Rattle.clu_layout.specs.Objects.{Object}
use Rattle.clu_layout.specs.Places.{found_from}
use Rattle.clu_layout.specs.StringOperations.{string_indexc}
use Rattle.clu_wir.specs.Plain.{Stmts, binary, slot, stmts_of}
use Rattle.clu_wir.specs.declared.expression.WOp.TheVariants as op
use Rattle.clu_wir.specs.Value.{View}
use Rattle.clu_word_meaning.specs.Levels.{arguments, entered, framed, inside}
use Rattle.clu_word_meaning.specs.World.{World}
use Rattle.clu_word_meaning.specs.Words.{Body, Computation, Entry, Linked, Result, Slots, State, ended, exec_all, put_slot, returned, view}
use Rattle.clu_representation.specs.Layout.{Image, Layout}
use Rattle.clu_representation.specs.Shown.{Bare, Bytes}
use Rattle.clu_representation.specs.Stored.{Seen}
use Rattle.laws_operations.specs.Comes.{InSlots}
use Rattle.laws_operations.specs.LoopCodes.{gives, indexc_round, indexc_row, when}
use Rattle.laws_operations.specs.LoopRows.{StepsRight, routine_of}
use Rattle.laws_operations.proofs.Arguments.{as_char}
use Rattle.laws_operations.proofs.Results.{small_is_int}
use Rattle.laws_operations.proofs.LoopCompared.{Anything}
use Rattle.laws_operations.proofs.LoopEntering.{Within, returning, steps_do}
use Rattle.laws_operations.proofs.LoopLaw.{Round, loop_returns, searches}
use Rattle.laws_operations.proofs.LoopSteps.{Runs, at_end, at_most, first_ends, returns, set_then, skip_when}
use Rattle.laws_operations.proofs.LoopStrings.{two_of}
use Rattle.laws_operations.proofs.LoopTexts.{Text, byte_at_place, byte_is, equal_numbers, of_slots, one_further, other_numbers, other_word, same_word, slot_equals_size, slot_word, text_of, word_is}
use Rattle.laws_operations.proofs.StringLoads.{as_string}

found_here : (p c d : ℕ) (cs : List ℕ) → c ≡ d → found_from p (c ∷ []) (d ∷ cs) ≡ p
found_here p c d cs e = by (c == d) refl
  where
    by : (t : Bool) → (c == d) ≡ t → (if (c == d) && true then p else found_from (suc p) (c ∷ []) cs) ≡ p
    by true g = ap (λ (t : Bool). if t && true then p else found_from (suc p) (c ∷ []) cs) g
    by false g = absurd (grind arith)

found_after : (p c d : ℕ) (cs : List ℕ) → (c ≡ d → ⊥) → found_from p (c ∷ []) (d ∷ cs) ≡ found_from (suc p) (c ∷ []) cs
found_after p c d cs k = by (c == d) refl
  where
    by : (t : Bool) → (c == d) ≡ t → (if (c == d) && true then p else found_from (suc p) (c ∷ []) cs) ≡ found_from (suc p) (c ∷ []) cs
    by true g = absurd (k (equal_numbers c d g))
    by false g = ap (λ (t : Bool). if t && true then p else found_from (suc p) (c ∷ []) cs) g

-- a place is in the string, or 0
found_below : (p c : ℕ) (t : List ℕ) → found_from p (c ∷ []) t ≤ p + length t
found_below p c [] = omega arith
found_below p c (d ∷ cs) = by (c == d) refl (found_below (suc p) c cs)
  where
    by : (t : Bool) → (c == d) ≡ t → found_from (suc p) (c ∷ []) cs ≤ suc p + length cs → (if (c == d) && true then p else found_from (suc p) (c ∷ []) cs) ≤ p + suc (length cs)
    by true g l = subst (λ (t : Bool). (if t && true then p else found_from (suc p) (c ∷ []) cs) ≤ p + suc (length cs)) (sym g) (omega arith)
    by false g l = subst (λ (t : Bool). (if t && true then p else found_from (suc p) (c ∷ []) cs) ≤ p + suc (length cs)) (sym g) (omega (arith, l))

module _ (outer : List Slots) (world : World) (l : Linked) (entries : ℕ → Entry) (body : Body) (live : ℕ) (map : Layout) (first : Slots) (seen : Seen map (view l first world)) where
  abbrev words : Slots → View
  words s = view l s world

  module _ (c : ℕ) (t : List ℕ) (v : ℕ) (tv : Text map (view l first world) t v) where
    abbrev whole : ℕ
    whole = found_from 1 (c ∷ []) t

    -- the place, and what is left of the string there, where the character is sought
    pub record Sought (m : ℕ) (slots : Slots) : Type 0 where
      pub i : ℕ
      pub a : List ℕ
      pub x_is : slots 0 ≡ Some c
      pub y_is : slots 1 ≡ Some v
      pub place_is : slots 3 ≡ Some i
      pub many : length a ≡ m
      pub of_y : length t ≡ i + m
      pub a_bytes : Bytes map (v + 8) i a
      pub answer : found_from (suc i) (c ∷ []) a ≡ whole

    abbrev inner : Computation (Unit {0})
    inner = exec_all l entries body live indexc_round

    abbrev rest : Stmts
    rest = stmts_of (when (binary op.Equal (slot 4) (slot 0)) (gives (slot 3) ∷ []) ∷ [])

    abbrev read : Slots → ℕ → ℕ → Slots
    read slots d i = put_slot 3 (suc i) (put_slot 4 d slots)

    byte_read : {turns steps : ℕ} {last : ℕ → State → Result (Unit {0})} {Left : Slots → Type 0} (m d i : ℕ) (a : List ℕ) (slots : Slots) → slots 1 ≡ Some v → slots 3 ≡ Some i → length t ≡ i + suc m → Bytes map (v + 8) i (d ∷ a) →
        Runs outer world (exec_all l entries body live rest) (read slots d i) turns steps last Left → Runs outer world inner slots (suc (suc (suc turns))) (4 + (1 + (1 + steps))) last Left
    byte_read m d i a slots q r et ys more =
        skip_when outer world l entries body live _ _ _ (slot_equals_size (words slots) 3 1 i v (length t) r q tv.size) (other_word i (length t) (λ e. omega (arith, e, et)))
        (set_then outer world l entries body live 4 _ _ (byte_is (words slots) 1 v i d q r (byte_at_place map (view l first world) seen v i (length t) d a tv.end (omega (arith, et)) ys))
        (set_then outer world l entries body live 3 _ _ (one_further (words (put_slot 4 d slots)) 3 i r (omega (arith, et, tv.end))) more))

    one_byte : (m d i : ℕ) (a : List ℕ) (slots : Slots) → slots 0 ≡ Some c → slots 1 ≡ Some v → slots 3 ≡ Some i → length a ≡ m → length t ≡ i + suc m → Bytes map (v + 8) i (d ∷ a) → found_from (suc i) (c ∷ []) (d ∷ a) ≡ whole →
        (b : Bool) → (c == d) ≡ b → Round outer world inner slots 9 30 (returned (whole ∷ [])) Anything (Sought m)
    one_byte m d i a slots p q r n et ys is true e = inl (at_most outer world
        (byte_read m d i a slots q r et ys
        (first_ends outer world l entries body live _ _ _ _ (of_slots (words (read slots d i)) op.Equal 4 0 d c refl p) (same_word d c (sym (equal_numbers c d e)))
        (returns outer world l entries body live _ _ (slot_word (words (read slots d i)) 3 (suc i) whole refl (sym (found_here (suc i) c d a (equal_numbers c d e)) ∙ is)) tt))) (omega arith) (omega arith))
    one_byte m d i a slots p q r n et ys is false e = inr (at_most outer world
        (byte_read m d i a slots q r et ys
        (skip_when outer world l entries body live _ _ _ (of_slots (words (read slots d i)) op.Equal 4 0 d c refl p) (other_word d c (λ g. other_numbers c d e (sym g)))
        (at_end outer world l entries body live (record {
          i = suc i;
          a = a;
          x_is = p;
          y_is = q;
          place_is = refl;
          many = n;
          of_y = omega (arith, et);
          a_bytes = ys.1;
          answer = sym (found_after (suc i) c d a (other_numbers c d e)) ∙ is;
        })))) (omega arith) (omega arith))

    goes : (m : ℕ) (slots : Slots) → Sought (suc m) slots → Round outer world inner slots 9 30 (returned (whole ∷ [])) Anything (Sought m)
    goes m slots h = by h.a h.many h.a_bytes h.answer
      where
        by : (a : List ℕ) → length a ≡ suc m → Bytes map (v + 8) h.i a → found_from (suc h.i) (c ∷ []) a ≡ whole → Round outer world inner slots 9 30 (returned (whole ∷ [])) Anything (Sought m)
        by [] n ys is = absurd (omega (arith, n))
        by (d ∷ a) n ys is = one_byte m d h.i a slots h.x_is h.y_is h.place_is (omega (arith, n)) h.of_y ys is (c == d) refl

    stops : (slots : Slots) → Sought zero slots → Runs outer world inner slots 9 30 (λ k st. ended (returned (whole ∷ [])) k st) Anything
    stops slots h = by h.a h.many h.answer
      where
        by : (a : List ℕ) → length a ≡ zero → found_from (suc h.i) (c ∷ []) a ≡ whole → Runs outer world inner slots 9 30 (λ k st. ended (returned (whole ∷ [])) k st) Anything
        by [] n is = at_most outer world
            (first_ends outer world l entries body live _ _ _ _ (slot_equals_size (words slots) 3 1 h.i v (length t) h.place_is h.y_is tv.size) (same_word h.i (length t) (omega (arith, h.of_y)))
            (returns outer world l entries body live _ _ (word_is (words slots) 0 whole is) tt)) (omega arith) (omega arith)
        by (d ∷ a) n is = absurd (omega (arith, n))

    pub seeks : first 0 ≡ Some c → first 1 ≡ Some v → Runs outer world (exec_all l entries body live indexc_row.body) first (12 + 10 * length t) (33 + 32 * length t) (λ k st. ended (returned (whole ∷ [])) k st) Anything
    seeks p q = at_most outer world
        (set_then outer world l entries body live 3 _ _ (word_is (words first) 0 0 refl)
        (loop_returns outer world l entries body live _ _ (searches outer world inner Sought Anything (returned (whole ∷ [])) 9 30 goes stops (length t) (put_slot 3 0 first) (record {
          i = 0;
          a = t;
          x_is = p;
          y_is = q;
          place_is = refl;
          many = refl;
          of_y = omega arith;
          a_bytes = tv.bytes_are;
          answer = refl;
        })))) (omega arith) (omega arith)

module _ (image : Image) (map : Layout) (l : Linked) (entries : ℕ → Entry) (live : ℕ) (body : Body) (ws : List ℕ) (st : State) (seen : Seen map (view l (arguments ws) st.world)) (os : List Object)
    (shown : InSlots image map (view l (arguments ws) st.world) (type_and char_type (type_and string_type no_types)) 0 os) (fits : length ws ≡ 2) where
  within : (w : Outside) → Within image map (entered entries (Some (framed (routine_of indexc_row l))) live body ws) st (inside live (routine_of indexc_row l)) (type_and int_type no_types) w (string_indexc os w)
  unfolding counts gives_all
  within w =
      let P = Within image map (entered entries (Some (framed (routine_of indexc_row l))) live body ws) st (inside live (routine_of indexc_row l)) (type_and int_type no_types) w in
      two_of image map (view l (arguments ws) st.world) P char_type string_type (λ a b. with_char a (λ c. with_string b (λ t. counts (length t) (gives_int (pos (found_from 1 (c ∷ []) t)))))) os w shown (λ a b u v p q k m.
      as_char P tt a (λ c. with_string b (λ t. counts (length t) (gives_int (pos (found_from 1 (c ∷ []) t))))) w (λ c e.
      as_string P tt b (λ t. counts (length t) (gives_int (pos (found_from 1 (c ∷ []) t)))) w (λ t g.
      let is = subst (λ o. Bare image map o u) e k in
      let text = text_of map (view l (arguments ws) st.world) seen t v (subst (λ o. Bare image map o v) g m) in
      record {
        v = found_from 1 (c ∷ []) t;
        work = length t;
        shown = record { is_one = small_is_int (found_from 1 (c ∷ []) t) (omega (arith, found_below 1 c t, text.end)); word_is = refl };
        ran = returning l entries live body indexc_row ws st (ap (λ n. 2 == n) fits) (found_from 1 (c ∷ []) t) (suc (length t)) (omega arith) (omega arith)
            (seeks st.outer st.world l entries body (inside live (routine_of indexc_row l)) map (arguments ws) seen c t v text (p ∙ ap Some is.0) q);
        same = refl;
      })))

pub indexc_right : StepsRight string_type indexc_row
indexc_right image map l entries live body ws st os w around h fits = steps_do image map _ st _ string_type (codes "indexc") os w (within image map l entries live body ws st around.seen os h fits)
