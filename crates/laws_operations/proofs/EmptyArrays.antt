-- new, create and predict of arrays.
use Rattle.std.proofs.Common.{◌≡◌, ℕ, ℤ, pos, suc, Bool, false, ◌&&◌, ◌==◌, ◌-ℤ◌, ◌+ℤ◌, ◌+◌, ◌*◌, ◌%◌, ◌^◌, ◌<◌, ◌≤◌, ◌≢◌, true, List, [], ◌∷◌, ◌++◌, length, Some, refl, sym, ap, ◌∙◌, subst, arith}
use Rattle.std.specs.Prelude.{codes}
use Rattle.std.specs.Int.{from_bool}
use Rattle.std.proofs.lemmas.Int.{ints}
use Rattle.clu_types.specs.CluType.{CluType, CluTypes, array_of, int_type}
use Rattle.clu_builtin.specs.Operation.{none, one}
use Rattle.clu_layout.specs.Objects.{Object, array_cell, reference, string_object}
use Rattle.clu_layout.specs.Places.{high_of, is_int}
use Rattle.clu_layout.specs.Actions.{Action, World, Outcome, returned, signalled, wrong, counts, fresh_array, has_int_bounds, makes, new_array, or_fails, signals_with, takes, with_int, with_none, with_one}
use Rattle.clu_layout.specs.Primitive.{added, prim}
use Rattle.clu_wir.specs.Plain.{Expr, Stmts, slot, word}
use Rattle.clu_wir.specs.Plain as plain
use Rattle.clu_wir.specs.declared.expression.WOp.TheVariants as op
use Rattle.clu_wir.specs.declared.hole.HoleKind.TheVariants as kind
use Rattle.clu_wir.specs.Value.{View, Gives, meant, op_word, value}
use Rattle.clu_word_meaning.specs.World.{grown, put_word}
use Rattle.clu_word_meaning.specs.Words.{State, counted, counted_twice, ended, exec_all, put_slot, stores, turned, view, with_slots, with_world}
use Rattle.clu_word_meaning.specs.Words as meaning
use Rattle.clu_representation.specs.Layout.{Extends, Image, Layout, SameCell, of_cell, with_word}
use Rattle.clu_representation.specs.Held.{Heap, IsArray, Own}
use Rattle.clu_representation.specs.Shown.{Bare, IsInt}
use Rattle.clu_representation.specs.Stored.{Stored, WordPut}
use Rattle.clu_representation.proofs.Changes.{extends_store, extends_trans, put_here, put_there, same_trans, store_other}
use Rattle.clu_representation.proofs.Heaps.{heap_added}
use Rattle.clu_representation.proofs.OwnPuts.{of_a_cell}
use Rattle.clu_representation.proofs.Writing.{put_stored}
use Rattle.laws_operations.specs.CellSteps.{AreThere, CreatesRight, MakesCell, MakesCellRight, PredictsRight, ShowsText, Signals, create_code, empty_code, is_least, new_row, out_of_range}
use Rattle.laws_operations.specs.Comes.{InSlots}
use Rattle.laws_operations.specs.Steps.{HasRoom, Made, Place}
use Rattle.laws_operations.proofs.Arguments.{as_int}
use Rattle.laws_operations.proofs.Doing.{doing, nothing_after}
use Rattle.laws_operations.proofs.Ending.{Ends, ends_of}
use Rattle.laws_operations.proofs.Invoking.{Returns, bound_in, returns_of}
use Rattle.laws_operations.proofs.LowBounds.{below_least, below_others}
use Rattle.laws_operations.proofs.NewCells.{NewCell, new_cell}
use Rattle.laws_operations.proofs.Pairs.{one_argument}
use Rattle.laws_operations.proofs.Puts.{slot_value, two_given}
use Rattle.laws_operations.proofs.Running.{allocate_step, leave_step, put_step, signal_step, skip_step}
use Rattle.laws_operations.proofs.Variants.{Fits, with_its_room}
use Rattle.laws_operations.proofs.Words as words
use Rattle.laws_operations.proofs.Sameness.{word_value}

module _ (image : Image) (map : Layout) (place : Place) (t : CluType) (low : ℤ) (v : ℕ) (e : Expr) (w : World) (st : State) (whole : Stored map st.world) (heap : Heap image map w.cells) (there : AreThere map w.cells) (room : st.world.next + 8 * 6 ≤ whole.limit)
    (is : IsInt low v) (fits : v < 2 ^ 64) (bounds : has_int_bounds (fresh_array t low []) ≡ true) where
  abbrev c : ℕ
  c = length w.cells

  abbrev at : ℕ
  at = st.world.next

  new : NewCell map st.world w.cells 6 (array_of t)
  new = new_cell map st.world w.cells 6 (array_of t) whole room there

  zero_on : (m : ℕ) → m + 8 * 0 ≡ m
  zero_on m = omega arith

  mine : new.later.owner at ≡ of_cell c
  mine = subst (λ p. new.later.owner p ≡ of_cell c) (zero_on at) (new.mine 0 (omega arith))

  low_put : WordPut new.later (grown (8 * 6) st.world) at v
  low_put = put_stored new.later (grown (8 * 6) st.world) at c v new.stored mine fits

  abbrev later : Layout
  later = with_word new.later at v

  extends : Extends map later
  extends = extends_trans map new.later later new.extends (extends_store new.later at v (of_a_cell new.later c at mine))

  others : (d : ℕ) → c ≢ d → SameCell d map later
  others d k = same_trans d map new.later later (new.others d k) (store_other new.later c d at v mine k)

  -- a word behind the first is 0
  blank : (i p : ℕ) → p ≡ at + 8 * i → 0 < i → i < 6 → Own later c p 0
  blank i p e k l = subst (λ q. Own later c q 0) (sym e) (record { whose = new.mine i l; is = put_there new.later.word at v (at + 8 * i) (λ e. omega (arith, e, k)) ∙ new.blank i l })

  after_at : (k i : ℕ) → k ≡ 8 * i → later.address c + k ≡ at + 8 * i
  after_at k i e = λ j. new.at j + e j

  holds : IsArray image later c (fresh_array t low [])
  holds = record {
    type_is = new.kind;
    low = v;
    low_is = is;
    holds_low = subst (λ a. Own later c a v) (sym new.at) (record { whose = mine; is = put_here new.later.word at v });
    size = blank 1 (later.address c + 8) (after_at 8 1 refl) (omega arith) (omega arith);
    room = blank 2 (later.address c + 16) (after_at 16 2 refl) (omega arith) (omega arith);
    first = 0;
    holds_first = blank 3 (later.address c + 24) (after_at 24 3 refl) (omega arith) (omega arith);
    first_inside = omega arith;
    block = 0;
    holds_block = blank 4 (later.address c + 32) (after_at 32 4 refl) (omega arith) (omega arith);
    behind = λ l. absurd (omega (arith, l));
    enough = omega arith;
    bounds = bounds;
    items = λ i o k. absurd (cc k);
    whole_room = λ i l. absurd (omega (arith, l));
  }

  abbrev st1 : State
  st1 = with_slots (put_slot 1 at) (stores (grown (6 * 8) st.world).next (with_world (grown (6 * 8) st.world) (counted 2 (counted 1 (turned st)))))

  abbrev st2 : State
  st2 = with_world low_put.after (counted 1 (counted 1 (turned st1)))

  abbrev now : State
  now = counted 1 (counted 1 (turned st2))

  below : at + 48 ≤ 2 ^ 63
  below = omega (arith, room, whole.limited)

  module _ (low_is : value (view place.linked st1.slots st1.world) e ≡ Gives v) where
    goes : (k : ℕ) → exec_all place.linked place.entries place.body place.live (empty_code e) (3 + k) st ≡ ended (meaning.returned (at ∷ [])) k now
    goes k =
        ap (λ turns. exec_all place.linked place.entries place.body place.live (empty_code e) turns st) (three k)
        ∙ allocate_step place.linked place.entries place.body place.live st (suc (suc k)) 1 6 (word 6) _ (word_value (view place.linked st.slots st.world) 6)
        ∙ put_step place.linked place.entries place.body place.live st1 (suc k) 0 at v (slot 1) e _ low_put.after low_is (slot_value (view place.linked st1.slots st1.world) 1 at refl)
        (ap (λ p. put_word (grown (8 * 6) st.world) p v) (at_first at below) ∙ low_put.is)
        ∙ leave_step place.linked place.entries place.body place.live st2 k at (slot 1) _ (slot_value (view place.linked st2.slots st2.world) 1 at refl)
      where
        three : (k : ℕ) → 3 + k ≡ suc (suc (suc k))
        three k = omega arith

        at_first : (m : ℕ) → m + 48 ≤ 2 ^ 63 → (m + 0) % 2 ^ 64 ≡ m
        at_first m l = omega (arith, l)

    module _ (after : World) (cells : after.cells ≡ w.cells ++ array_cell (fresh_array t low []) ∷ []) (input : after.input ≡ w.input) (output : after.output ≡ w.output) (words : w.words + 6 ≤ after.words) (work : w.work + 1 ≤ after.work) where
      empty_made : (made : Made image map (array_of t) place (empty_code e) st (reference (array_of t) c) w after) × AreThere made.later after.cells × (made.now.meters.steps ≡ 7 + st.meters.steps)
      empty_made = (
        record {
          used = 3;
          now = now;
          v = at;
          later = later;
          goes = goes;
          extends = extends;
          stored = low_put.stored;
          heap = subst (λ cs. Heap image later cs) (sym cells) (heap_added image map later w.cells (array_cell (fresh_array t low [])) extends others holds heap);
          shown = (refl, record { at = sym new.at; whose = mine; type_is = new.kind });
          input_kept = low_put.input_same;
          output_kept = low_put.output_same;
          input_same = input;
          output_same = output;
          store = omega (arith, low_put.next_same, words);
          steps = counts_up st.meters.steps w.work after.work work;
          most = refl;
        },
        subst (λ cs. AreThere later cs) (sym cells) (λ a d e. new.there (array_cell (fresh_array t low [])) a d e),
        seven st.meters.steps,
      )
        where
          counts_up : (m a b : ℕ) → a + 1 ≤ b → 1 + (1 + (1 + (1 + (2 + (1 + m))))) + 256 * a ≤ m + 256 * b
          counts_up m a b l = omega (arith, l)

          seven : (m : ℕ) → 1 + (1 + (1 + (1 + (2 + (1 + m))))) ≡ 7 + m
          seven m = omega arith

no_arguments : (P : Outcome → Type 0) (image : Image) (map : Layout) (view : View) (rest : Action) (os : List Object) (w : World) → InSlots image map view none 0 os → P (rest w) → P (with_none os rest w)
unfolding with_none
no_arguments P image map view rest [] w h f = f
no_arguments P image map view rest (o ∷ os) w h f = absurd h

pub new_right : (t : CluType) → MakesCellRight (array_of t) new_row
unfolding counts takes makes or_fails
new_right t image map place os w st store heap there small slots room =
    with_its_room image map place (empty_code (word 1)) w st store.limit (one (array_of t)) (prim (array_of t) (codes "new") os w) room
    (returns_of (Fits image map place (empty_code (word 1)) w st store.limit) (array_of t) (codes "new") os w (λ fit.
    no_arguments (λ out. Returns (λ rs after. Fits image map place (empty_code (word 1)) w st store.limit (one (array_of t)) rs (bound_in w after 0)) out) image map (view place.linked st.slots st.world) (new_array t (pos 1) []) os (doing w 0) slots (λ more.
    let d = record (doing w 0) { words = 0 + 0 + 6; work = 0 + 0 + 1 + 0 + 6; cells = w.cells ++ array_cell (fresh_array t (pos 1) []) ∷ [] } in
    let it = empty_made image map place t (pos 1) 1 (word 1) w st store heap there (omega (arith, more)) (record { is_one = refl; word_is = refl }) (omega arith) refl
    (word_value _ 1) (bound_in w d 0) refl refl (nothing_after w.output) (omega arith) (omega arith) in (it.0, it.1))))

-- ---- create

-- with room for what it takes, where it may signal
in_its_room : (image : Image) (map : Layout) (place : Place) (code : Stmts) (w : World) (st : State) (limit : ℕ) (types : CluTypes) (out : Outcome) → HasRoom limit st w out →
    Ends (Fits image map place code w st limit types) (λ name os after. Signals image map place code st name os w after) out → MakesCell image map types place code st w out
in_its_room image map place code w st limit types (returned os after) room h = h room
in_its_room image map place code w st limit types (signalled name os after) room h = h
in_its_room image map place code w st limit types wrong room h = tt

pub least_is : (view : View) (u : ℕ) → view.slot 0 ≡ Some u → value view (is_least (slot 0)) ≡ Gives (op_word op.Equal u (2 ^ 63))
unfolding meant
least_is view u p = rw p refl

pub hole_value : (view : View) (k u : ℕ) → view.hole kind.Constant k ≡ Some u → value view (plain.hole kind.Constant k) ≡ Gives u
unfolding meant
hole_value view k u p = rw p refl

one_given : (P : Outcome → Type 0) (image : Image) (map : Layout) (view : View) (rest : ℤ → Action) (os : List Object) (w : World) → P wrong → InSlots image map view (one int_type) 0 os →
    ((low : ℤ) (u : ℕ) → view.slot 0 ≡ Some u → IsInt low u → P (rest low w)) → P (with_one os (λ b. with_int b rest) w)
one_given P image map view rest os w z slots f = one_argument P image map view int_type (λ b. with_int b rest) os w slots (λ o u p k.
    as_int P z o rest w (λ low e. f low u p (subst (λ b. Bare image map b u) e k)))

module _ (image : Image) (map : Layout) (place : Place) (t : CluType) (k : ℕ) (low : ℤ) (v : ℕ) (w : World) (st : State) (whole : Stored map st.world) (heap : Heap image map w.cells) (there : AreThere map w.cells)
    (here : st.slots 0 ≡ Some v) (is : IsInt low v) (fits : v < 2 ^ 64) (text : ShowsText place.linked map k out_of_range) where
  abbrev Q : List Object → World → Type 0
  Q rs after = Fits image map place (create_code k) w st whole.limit (one (array_of t)) rs (bound_in w after 0)

  abbrev S : List ℕ → List Object → World → Type 0
  S name os after = Signals image map place (create_code k) st name os w (added w after)

  abbrev done : Action
  done = counts 0 (takes 6 (makes (array_cell (fresh_array t low []))))

  abbrev skipped : State
  skipped = counted_twice (counted 1 (counted 1 (turned st)))

  least : v ≡ 2 ^ 63 → Signals image map place (create_code k) st (codes "failure") (string_object out_of_range ∷ []) w (added w (doing w 0))
  least e =
      let (u, found, string) = text in
      record {
        used = 2;
        now = counted 1 (counted 1 (counted 1 (turned (counted 1 (counted 1 (turned st))))));
        vs = u ∷ [];
        goes = λ n. ap (λ turns. exec_all place.linked place.entries place.body place.live (create_code k) turns st) (two n)
            ∙ signal_step place.linked place.entries place.body place.live st n u (is_least (slot 0)) (plain.hole kind.Constant k) (codes "failure") (empty_code (slot 0))
            (least_is (view place.linked st.slots st.world) v here ∙ ap (λ x. Gives (op_word op.Equal x (2 ^ 63))) e) (hole_value (view place.linked st.slots st.world) k u found);
        shown = (string, tt);
        world_kept = refl;
        untouched = record { cells = refl; input = refl; output = nothing_after w.output; words = omega arith; work = omega arith };
        steps = omega arith;
        most = refl;
      }
    where
      two : (n : ℕ) → 2 + n ≡ suc (suc n)
      two n = omega arith

  other : (v == 2 ^ 63) ≡ false → has_int_bounds (fresh_array t low []) ≡ true → st.world.next + 8 * 6 ≤ whole.limit → (after : World) → after.cells ≡ w.cells ++ array_cell (fresh_array t low []) ∷ [] → after.input ≡ w.input → after.output ≡ w.output →
      w.words + 6 ≤ after.words → w.work + 1 ≤ after.work → (made : Made image map (array_of t) place (create_code k) st (reference (array_of t) (length w.cells)) w after) × AreThere made.later after.cells
  other e bounds room after cells input output words work =
      let it = empty_made image map place t low v (slot 0) w skipped whole heap there room is fits bounds (slot_value _ 0 v here) after cells input output words work in
      let made = it.0 in (
        record {
          used = suc made.used;
          now = made.now;
          v = made.v;
          later = made.later;
          goes = λ n. ap (λ turns. exec_all place.linked place.entries place.body place.live (create_code k) turns st) (one_more made.used n)
              ∙ skip_step place.linked place.entries place.body place.live st (made.used + n) (is_least (slot 0)) _ (empty_code (slot 0))
              (least_is (view place.linked st.slots st.world) v here ∙ ap (λ b. Gives (from_bool b)) e) ∙ made.goes n;
          extends = made.extends;
          stored = made.stored;
          heap = made.heap;
          shown = made.shown;
          input_kept = made.input_kept;
          output_kept = made.output_kept;
          input_same = made.input_same;
          output_same = made.output_same;
          store = made.store;
          steps = omega (arith, it.2, work);
          most = made.most;
        },
        it.1,
      )
    where
      one_more : (a b : ℕ) → suc a + b ≡ suc (a + b)
      one_more a b = omega arith

  created : Ends Q S (new_array t low [] (doing w 0))
  unfolding or_fails counts takes makes signals_with
  created = by (v == 2 ^ 63) refl
    where
      same : (x y : ℕ) → (x == y) ≡ true → x ≡ y
      same x y e = grind arith

      differ : (x y : ℕ) → (x == y) ≡ false → x ≢ y
      differ x y e f = absurd (grind arith)

      all_three : (x y z : Bool) → x ≡ true → y ≡ true → z ≡ true → x && y && z ≡ true
      all_three x y z p q r = λ i. p i && q i && r i

      by : (b : Bool) → (v == 2 ^ 63) ≡ b → Ends Q S (or_fails out_of_range (has_int_bounds (fresh_array t low [])) done (doing w 0))
      by true e =
          let never = below_least low (low -ℤ pos 1) is.is_one (sym is.word_is ∙ same v (2 ^ 63) e) refl in
          subst (λ b. Ends Q S (or_fails out_of_range b done (doing w 0))) (sym (ap (λ b. b && is_int low && is_int (high_of {A = Object} low [])) never)) (least (same v (2 ^ 63) e))
      by false e =
          let k : words.word low ≢ 2 ^ 63 = λ f. differ v (2 ^ 63) e (is.word_is ∙ f) in
          let bounds : has_int_bounds (fresh_array t low []) ≡ true =
          all_three (is_int (low -ℤ pos 1)) (is_int low) (is_int (high_of {A = Object} low [])) (below_others low (low -ℤ pos 1) is.is_one k refl) is.is_one (below_others low (high_of {A = Object} low []) is.is_one k (nothing_more low)) in
          subst (λ b. Ends Q S (or_fails out_of_range b done (doing w 0))) (sym bounds) (λ more.
          other e bounds (omega (arith, more)) (bound_in w (record (doing w 0) { words = 0 + 0 + 6; work = 0 + 0 + 1 + 0 + 6; cells = w.cells ++ array_cell (fresh_array t low []) ∷ [] }) 0) refl refl (nothing_after w.output) (omega arith) (omega arith))
        where
          nothing_more : (z : ℤ) → (z +ℤ pos 0) -ℤ pos 1 ≡ z -ℤ pos 1
          nothing_more z = omega (arith, ints)

pub create_right : CreatesRight
create_right t k image map place os w st store heap there small text slots room =
    in_its_room image map place (create_code k) w st store.limit (one (array_of t)) (prim (array_of t) (codes "create") os w) room
    (ends_of (Fits image map place (create_code k) w st store.limit) (λ name os after. Signals image map place (create_code k) st name os w after) (array_of t) (codes "create") os w (λ fit.
    one_given (Ends (λ rs after. Fits image map place (create_code k) w st store.limit (one (array_of t)) rs (bound_in w after 0)) (λ name os after. Signals image map place (create_code k) st name os w (added w after))) image map (view place.linked st.slots st.world)
    (λ low. new_array t low []) os (doing w 0) tt slots (λ low u p n.
    created image map place t k low u w st store heap there p n (small 0 u p) text)))

-- ---- predict

pub predict_right : PredictsRight
predict_right t k image map place os w st store heap there small text slots room =
    let Goal = Ends (λ rs after. Fits image map place (create_code k) w st store.limit (one (array_of t)) rs (bound_in w after 0)) (λ name os after. Signals image map place (create_code k) st name os w (added w after)) in
    in_its_room image map place (create_code k) w st store.limit (one (array_of t)) (prim (array_of t) (codes "predict") os w) room
    (ends_of (Fits image map place (create_code k) w st store.limit) (λ name os after. Signals image map place (create_code k) st name os w after) (array_of t) (codes "predict") os w (λ fit.
    two_given image map (view place.linked st.slots st.world) Goal (array_of t) int_type int_type (λ b n. with_int b (λ low. new_array t low [])) os (doing w 0) slots fit (λ b n u v p q l m g.
    as_int Goal tt b (λ low. new_array t low []) (doing w 0) (λ low e.
    created image map place t k low u w st store heap there p (subst (λ b. Bare image map b u) e l) (small 0 u p) text))))
