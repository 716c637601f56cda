-- set_low of arrays.
use Rattle.std.proofs.Common.{◌≡◌, ℕ, ℤ, pos, suc, ◌+◌, ◌%◌, ◌^◌, ◌<◌, ◌≤◌, ◌≢◌, Bool, true, false, ◌&&◌, ◌==◌, ◌-ℤ◌, List, [], ◌∷◌, length, Some, slice_get, slice_set, refl, sym, ap, ◌∙◌, subst, arith}
use Rattle.std.specs.Prelude.{codes}
use Rattle.std.specs.Int.{from_bool}
use Rattle.clu_types.specs.CluType.{array_of, int_type}
use Rattle.clu_builtin.specs.Operation.{none}
use Rattle.clu_layout.specs.Objects.{Array, Object, array_cell, string_object}
use Rattle.clu_layout.specs.Places.{high_of, is_int}
use Rattle.clu_layout.specs.Actions.{Action, World, Outcome, returned, signalled, wrong, changes, changes_array, gives_all, gives_nothing, has_int_bounds, or_fails, signals_with, with_array, with_int}
use Rattle.clu_layout.specs.Primitive.{added, prim}
use Rattle.clu_wir.specs.Plain.{Stmts, slot, word}
use Rattle.clu_wir.specs.Plain as plain
use Rattle.clu_wir.specs.declared.expression.WOp.TheVariants as op
use Rattle.clu_wir.specs.declared.hole.HoleKind.TheVariants as kind
use Rattle.clu_wir.specs.Value.{View, Gives, meant, op_word, value}
use Rattle.clu_word_meaning.specs.World.{put_word}
use Rattle.clu_word_meaning.specs.Words.{State, counted, counted_twice, exec_all, turned, view, with_world}
use Rattle.clu_representation.specs.Layout.{Image, Layout, with_word}
use Rattle.clu_representation.specs.Held.{Heap, IsArray}
use Rattle.clu_representation.specs.Shown.{Bare, IsInt}
use Rattle.clu_representation.specs.Stored.{Seen, Stored, WordPut}
use Rattle.clu_representation.proofs.Changes.{extends_store}
use Rattle.clu_representation.proofs.Lists.{length_set}
use Rattle.clu_representation.proofs.OwnPuts.{of_a_cell}
use Rattle.clu_representation.proofs.Reading.{seen_in}
use Rattle.clu_representation.proofs.Whole.{low_changed}
use Rattle.clu_representation.proofs.Writing.{put_stored}
use Rattle.laws_operations.specs.CellSteps.{Changed, Changes, SetsLowRight, ShowsText, Signals, fails_where, is_least, is_past, out_of_range, set_low_code}
use Rattle.laws_operations.specs.Steps.{Place}
use Rattle.laws_operations.proofs.Arguments.{as_int}
use Rattle.laws_operations.proofs.ArrayLoads.{header, of_cell_array, room_small}
use Rattle.laws_operations.proofs.Changing.{Changing}
use Rattle.laws_operations.proofs.Doing.{doing, nothing_after}
use Rattle.laws_operations.proofs.EmptyArrays.{hole_value}
use Rattle.laws_operations.proofs.Ending.{Ends, ends_of}
use Rattle.laws_operations.proofs.Finding.{cell_is_somebodys}
use Rattle.laws_operations.proofs.Invoking.{bound_in}
use Rattle.laws_operations.proofs.LowBounds.{below_least, below_others, is_past_it, not_past, past}
use Rattle.laws_operations.proofs.Puts.{slot_value, two_given}
use Rattle.laws_operations.proofs.Running.{leave_nothing, put_step, signal_step, skip_step}
use Rattle.laws_operations.proofs.Words as words

least_is : (view : View) (v : ℕ) → view.slot 1 ≡ Some v → value view (is_least (slot 1)) ≡ Gives (op_word op.Equal v (2 ^ 63))
unfolding meant
least_is view v p = rw p refl

past_is : (view : View) (u v n : ℕ) → view.slot 0 ≡ Some u → view.slot 1 ≡ Some v → view.word ((u + 8) % 2 ^ 64) ≡ Some n → value view is_past ≡ Gives (past v n)
unfolding meant
past_is view u v n p q h = rw (p, q, h) refl

changes_of : (image : Image) (map : Layout) (place : Place) (code : Stmts) (st : State) (w : World) (out : Outcome) →
    Ends (Changing image map place code st w none) (λ name os after. Signals image map place code st name os w after) out → Changes image map place code st w out
changes_of image map place code st w (returned [] after) h = h
changes_of image map place code st w (returned (o ∷ os) after) h = absurd h
changes_of image map place code st w (signalled name os after) h = h
changes_of image map place code st w wrong h = tt

module _ (image : Image) (map : Layout) (place : Place) (k : ℕ) (low : ℤ) (u v : ℕ) (w : World) (st : State) (store : Stored map st.world) (heap : Heap image map w.cells) (c : ℕ) (a : Array) (there : slice_get w.cells c ≡ Some (array_cell a))
    (first : st.slots 0 ≡ Some u) (second : st.slots 1 ≡ Some v) (at : u ≡ map.address c) (is : IsInt low v) (fits : v < 2 ^ 64) (text : ShowsText place.linked map k out_of_range) where
  held : IsArray image map c a
  held = heap c (array_cell a) there

  seen : Seen map (view place.linked st.slots st.world)
  seen = seen_in map st.world place.linked st.slots store

  few : length a.items < 2 ^ 61
  few = omega (arith, held.enough, room_small image map (view place.linked st.slots st.world) seen c a held u at)

  below : map.address c + 8 ≤ 2 ^ 63
  below = seen.below (map.address c) (cell_is_somebodys map c (map.address c) held.holds_low.whose)

  abbrev now : Array
  now = record a { low = low }

  abbrev Q : List Object → World → Type 0
  Q rs after = Changing image map place (set_low_code k) st w none rs (bound_in w after 0)

  abbrev S : List ℕ → List Object → World → Type 0
  S name os after = Signals image map place (set_low_code k) st name os w (added w after)

  abbrev skipped : State
  skipped = counted_twice (counted 1 (counted 1 (turned st)))

  abbrev skipped_again : State
  skipped_again = counted_twice (counted 1 (counted 1 (turned skipped)))

  run_from : (a b : ℕ) → a ≡ b → exec_all place.linked place.entries place.body place.live (set_low_code k) a st ≡ exec_all place.linked place.entries place.body place.live (set_low_code k) b st
  run_from a b e = ap (λ turns. exec_all place.linked place.entries place.body place.live (set_low_code k) turns st) e

  least : v ≡ 2 ^ 63 → Signals image map place (set_low_code k) st (codes "failure") (string_object out_of_range ∷ []) w (added w (doing w 0))
  least e =
      let (t, found, string) = text in
      record {
        used = 2;
        now = counted 1 (counted 1 (counted 1 (turned (counted 1 (counted 1 (turned st))))));
        vs = t ∷ [];
        goes = λ n. run_from (2 + n) (suc (suc n)) (two n)
            ∙ signal_step place.linked place.entries place.body place.live st n t (is_least (slot 1)) (plain.hole kind.Constant k) (codes "failure") _
            (least_is (view place.linked st.slots st.world) v second ∙ ap (λ x. Gives (op_word op.Equal x (2 ^ 63))) e) (hole_value (view place.linked st.slots st.world) k t found);
        shown = (string, tt);
        world_kept = refl;
        untouched = record { cells = refl; input = refl; output = nothing_after w.output; words = omega arith; work = omega arith };
        steps = omega arith;
        most = refl;
      }
    where
      two : (n : ℕ) → 2 + n ≡ suc (suc n)
      two n = omega arith

  module _ (other : (v == 2 ^ 63) ≡ false) where
    first_skip : (n : ℕ) → exec_all place.linked place.entries place.body place.live (set_low_code k) (suc n) st ≡
        exec_all place.linked place.entries place.body place.live (plain.stmt_and (fails_where is_past k) (plain.stmts_of (plain.put (slot 0) 0 (slot 1) ∷ plain.leave_with [] ∷ []))) n skipped
    first_skip n = skip_step place.linked place.entries place.body place.live st n (is_least (slot 1)) _ _ (least_is (view place.linked st.slots st.world) v second ∙ ap (λ b. Gives (from_bool b)) other)

    past_found : (n : ℕ) → past v (length a.items) ≡ n → value (view place.linked skipped.slots skipped.world) is_past ≡ Gives n
    past_found n e = past_is (view place.linked skipped.slots skipped.world) u v (length a.items) first second (header image map (view place.linked st.slots st.world) seen c a held u at).size_is ∙ ap Gives e

    past_it : past v (length a.items) ≡ 1 → Signals image map place (set_low_code k) st (codes "failure") (string_object out_of_range ∷ []) w (added w (doing w 0))
    past_it e =
        let (t, found, string) = text in
        record {
          used = 3;
          now = counted 1 (counted 1 (counted 1 (turned (counted 1 (counted 1 (turned skipped))))));
          vs = t ∷ [];
          goes = λ n. run_from (3 + n) (suc (suc (suc n))) (three n) ∙ first_skip (suc (suc n))
              ∙ signal_step place.linked place.entries place.body place.live skipped n t is_past (plain.hole kind.Constant k) (codes "failure") _ (past_found 1 e) (hole_value (view place.linked st.slots st.world) k t found);
          shown = (string, tt);
          world_kept = refl;
          untouched = record { cells = refl; input = refl; output = nothing_after w.output; words = omega arith; work = omega arith };
          steps = omega arith;
          most = refl;
        }
      where
        three : (n : ℕ) → 3 + n ≡ suc (suc (suc n))
        three n = omega arith

    low_put : WordPut map st.world (map.address c) v
    low_put = put_stored map st.world (map.address c) c v store held.holds_low.whose fits

    set : past v (length a.items) ≡ 0 → has_int_bounds now ≡ true → Changed image map place (set_low_code k) st w (bound_in w (record (doing w 0) { cells = slice_set w.cells c (array_cell now) }) 0)
    set e bounds = record {
      used = 4;
      now = counted 1 (turned (with_world low_put.after (counted 1 (counted 1 (turned skipped_again)))));
      later = with_word map (map.address c) v;
      goes = λ n. run_from (4 + n) (suc (suc (suc (suc n)))) (four n) ∙ first_skip (suc (suc (suc n)))
          ∙ skip_step place.linked place.entries place.body place.live skipped (suc (suc n)) is_past _ _ (past_found 0 e)
          ∙ put_step place.linked place.entries place.body place.live skipped_again (suc n) 0 (map.address c) v (slot 0) (slot 1) _ low_put.after
          (slot_value (view place.linked st.slots st.world) 1 v second) (slot_value (view place.linked st.slots st.world) 0 (map.address c) (first ∙ ap Some at))
          (ap (λ p. put_word st.world p v) (at_it (map.address c) below) ∙ low_put.is)
          ∙ leave_nothing place.linked place.entries place.body place.live _ n _;
      extends = extends_store map (map.address c) v (of_a_cell map c (map.address c) held.holds_low.whose);
      stored = low_put.stored;
      heap = low_changed image map w.cells c a low v heap there is bounds;
      there = λ h p d e. subst (λ m. d < m) (sym (length_set w.cells c (array_cell now))) (h p d e);
      input_kept = low_put.input_same;
      output_kept = low_put.output_same;
      input_same = refl;
      output_same = nothing_after w.output;
      next = low_put.next_same;
      words = omega arith;
      steps = omega arith;
      most = refl;
    }
      where
        four : (n : ℕ) → 4 + n ≡ suc (suc (suc (suc n)))
        four n = omega arith

        at_it : (m : ℕ) → m + 8 ≤ 2 ^ 63 → (m + 0) % 2 ^ 64 ≡ m
        at_it m l = omega (arith, l)

  low_set : Ends Q S (changes_array c now gives_nothing (doing w 0))
  unfolding or_fails signals_with changes gives_all
  low_set = by (v == 2 ^ 63) refl
    where
      rest : Action
      rest = changes c (array_cell now) gives_nothing

      same : (x y : ℕ) → (x == y) ≡ true → x ≡ y
      same x y e = grind arith

      differ : (x y : ℕ) → (x == y) ≡ false → x ≢ y
      differ x y e f = absurd (grind arith)

      below_is : (b : Bool) → is_int (low -ℤ pos 1) ≡ b → has_int_bounds now ≡ b && is_int low && is_int (high_of low a.items)
      below_is b e = ap (λ b. b && is_int low && is_int (high_of low a.items)) e

      by : (b : Bool) → (v == 2 ^ 63) ≡ b → Ends Q S (or_fails out_of_range (has_int_bounds now) rest (doing w 0))
      by true e =
          subst (λ b. Ends Q S (or_fails out_of_range b rest (doing w 0)))
          (sym (below_is false (below_least low (low -ℤ pos 1) is.is_one (sym is.word_is ∙ same v (2 ^ 63) e) refl))) (least (same v (2 ^ 63) e))
      by false e = high (is_int (high_of low a.items)) refl
        where
          not_least : words.word low ≢ 2 ^ 63
          not_least f = differ v (2 ^ 63) e (is.word_is ∙ f)

          all_are : (b : Bool) → is_int (high_of low a.items) ≡ b → has_int_bounds now ≡ b
          all_are b f = λ i. below_others low (low -ℤ pos 1) is.is_one not_least refl i && is.is_one i && f i

          high : (b : Bool) → is_int (high_of low a.items) ≡ b → Ends Q S (or_fails out_of_range (has_int_bounds now) rest (doing w 0))
          high true f =
              subst (λ b. Ends Q S (or_fails out_of_range b rest (doing w 0))) (sym (all_are true f))
              (set e (ap (λ x. past x (length a.items)) is.word_is ∙ not_past low (high_of low a.items) (length a.items) is.is_one not_least few refl f) (all_are true f))
          high false f =
              subst (λ b. Ends Q S (or_fails out_of_range b rest (doing w 0))) (sym (all_are false f))
              (past_it e (ap (λ x. past x (length a.items)) is.word_is ∙ is_past_it low (high_of low a.items) (length a.items) is.is_one not_least few refl f))

pub set_low_right : SetsLowRight
set_low_right t k image map place os w st store heap small text slots =
    let Goal = Ends (λ rs after. Changing image map place (set_low_code k) st w none rs (bound_in w after 0)) (λ name os after. Signals image map place (set_low_code k) st name os w (added w after)) in
    changes_of image map place (set_low_code k) st w (prim (array_of t) (codes "set_low") os w)
    (ends_of (Changing image map place (set_low_code k) st w) (λ name os after. Signals image map place (set_low_code k) st name os w after) (array_of t) (codes "set_low") os w (λ fit.
    two_given image map (view place.linked st.slots st.world) Goal (array_of t) (array_of t) int_type
    (λ r b. with_array r (λ c a. with_int b (λ i. changes_array c (record a { low = i }) gives_nothing))) os (doing w 0) slots fit (λ r b u v p q m n g.
    of_cell_array Goal tt r (λ c a. with_int b (λ i. changes_array c (record a { low = i }) gives_nothing)) (doing w 0) (λ kind c a e there.
    as_int Goal tt b (λ i. changes_array c (record a { low = i }) gives_nothing) (doing w 0) (λ low f.
    low_set image map place k low u v w st store heap c a there p q (subst (λ b. Bare image map b u) e m).1.at (subst (λ b. Bare image map b v) f n) (small 1 v q) text)))))
