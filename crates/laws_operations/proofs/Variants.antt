-- make_s of variants.
use Rattle.std.proofs.Common.{◌≡◌, ℕ, suc, ◌+◌, ◌*◌, ◌%◌, ◌^◌, ◌<◌, ◌≤◌, ◌≢◌, Bool, true, false, List, [], ◌∷◌, ◌++◌, length, None, Some, refl, sym, ap, ◌∙◌, subst, arith, bytes_eq, if◌then◌else◌}
use Rattle.std.specs.Prelude.{codes}
use Rattle.std.specs.Option.{option_map}
use Rattle.clu_types.specs.CluType.{CluType, CluTypes, Fields, no_fields, field_and, variant_of}
use Rattle.clu_builtin.specs.Operation.{Operation, one, quiet}
use Rattle.clu_builtin.specs.Table.{of_selectors, operation, or_else, variant_selectors}
use Rattle.clu_layout.specs.Objects.{Object, reference, variant_cell}
use Rattle.clu_layout.specs.Actions.{World, Outcome, returned, signalled, wrong, makes, new_variant, takes}
use Rattle.clu_layout.specs.OneofOperations.{variant_make, variant_primitives, variant_selected}
use Rattle.clu_layout.specs.Primitive.{prim, primitive, words_for_all}
use Rattle.clu_wir.specs.Plain.{Stmts, slot, word}
use Rattle.clu_word_meaning.specs.World.{grown, put_word}
use Rattle.clu_word_meaning.specs.Words.{State, counted, ended, exec_all, put_slot, stores, turned, view, with_slots, with_world}
use Rattle.clu_word_meaning.specs.Words as meaning
use Rattle.clu_representation.specs.Layout.{Extends, Image, Layout, SameCell, of_cell, with_word}
use Rattle.clu_representation.specs.Held.{CellularIf, Heap, Holds, Own}
use Rattle.clu_representation.specs.Shown.{At, place_of_field, type_of_field}
use Rattle.clu_representation.specs.Stored.{Stored, WordPut}
use Rattle.clu_representation.proofs.Changes.{extends_store, extends_trans, put_here, put_there, same_trans, store_other}
use Rattle.clu_representation.proofs.Heaps.{heap_added}
use Rattle.clu_representation.proofs.OwnPuts.{of_a_cell}
use Rattle.clu_representation.proofs.StaysShown.{at_on}
use Rattle.clu_representation.proofs.Writing.{put_stored}
use Rattle.laws_operations.specs.CellSteps.{AreThere, CellMadeOf, MakesCell, MakesVariants, variant_code}
use Rattle.laws_operations.specs.Comes.{InSlots}
use Rattle.laws_operations.specs.Rows.{args_of, results_of}
use Rattle.laws_operations.specs.Steps.{HasRoom, Made, Place}
use Rattle.laws_operations.proofs.Doing.{doing, nothing_after, tried}
use Rattle.laws_operations.proofs.Invoking.{Returns, bound_in, returns_of}
use Rattle.laws_operations.proofs.NewCells.{NewCell, new_cell}
use Rattle.laws_operations.proofs.Pairs.{one_argument}
use Rattle.laws_operations.proofs.Running.{allocate_step, leave_step, put_step}
use Rattle.laws_operations.proofs.Selected.{first_one, found}
use Rattle.laws_operations.proofs.Puts.{slot_value}
use Rattle.laws_operations.proofs.Sameness.{word_value}

-- ---- the row

-- with room for what it takes
abbrev pub Fits : Image → Layout → Place → Stmts → World → State → ℕ → CluTypes → List Object → World → Type 0
Fits image map place code w st limit types os after = st.world.next + 8 * after.words ≤ limit + 8 * w.words → CellMadeOf image map types place code st os w after

pub with_its_room : (image : Image) (map : Layout) (place : Place) (code : Stmts) (w : World) (st : State) (limit : ℕ) (types : CluTypes) (out : Outcome) → HasRoom limit st w out →
    Returns (Fits image map place code w st limit types) out → MakesCell image map types place code st w out
with_its_room image map place code w st limit types (returned os after) room h = h room
with_its_room image map place code w st limit types (signalled name os after) room h = absurd h
with_its_room image map place code w st limit types wrong room h = tt

abbrev variant_heading : CluType → CluType → Operation
variant_heading T t = record { iter = false; args = one t; results = one T; signals = quiet; needs = [] }

variant_makes : (T : CluType) (s : List ℕ) (fs : Fields) → of_selectors (variant_selectors T) fs (codes "make_" ++ s) ≡ option_map (variant_heading T) (type_of_field fs s)
variant_makes T s no_fields = refl
variant_makes T s (field_and name t fs) = by (bytes_eq name s) (variant_makes T s fs)
  where
    by : (b : Bool) → of_selectors (variant_selectors T) fs (codes "make_" ++ s) ≡ option_map (variant_heading T) (type_of_field fs s) →
        or_else (if b then Some (variant_heading T t) else None) (of_selectors (variant_selectors T) fs (codes "make_" ++ s)) ≡ option_map (variant_heading T) (if b then Some t else type_of_field fs s)
    by true again = refl
    by false again = again

module _ (fs : Fields) (s : List ℕ) (t : CluType) (field : type_of_field fs s ≡ Some t) where
  make_found : operation (variant_of fs) (codes "make_" ++ s) ≡ Some (variant_heading (variant_of fs) t)
  make_found = first_one _ _ (variant_heading (variant_of fs)) (type_of_field fs s) t (variant_makes (variant_of fs) s fs) field

  make_does : primitive (variant_of fs) (codes "make_" ++ s) ≡ Some (variant_make fs s)
  make_does = found (variant_selected fs) variant_primitives (λ s. codes "make_" ++ s) (variant_make fs) (record { here = λ name s rest. refl }) fs s t field

  -- ---- what the code does

  module _ (image : Image) (map : Layout) (place : Place) (x : ℕ) (o : Object) (w : World) (st : State) (whole : Stored map st.world) (heap : Heap image map w.cells) (there : AreThere map w.cells) (here : st.slots 0 ≡ Some x)
      (shown : At image map t o x) (x_fits : x < 2 ^ 64) (n_fits : place_of_field fs s < 2 ^ 64) (room : st.world.next + 8 * 3 ≤ whole.limit) where
    abbrev n : ℕ
    n = place_of_field fs s

    abbrev c : ℕ
    c = length w.cells

    abbrev at : ℕ
    at = st.world.next

    new : NewCell map st.world w.cells 3 (variant_of fs)
    new = new_cell map st.world w.cells 3 (variant_of fs) whole room there

    zero_on : (m : ℕ) → m + 8 * 0 ≡ m
    zero_on m = omega arith

    first_mine : new.later.owner at ≡ of_cell c
    first_mine = subst (λ p. new.later.owner p ≡ of_cell c) (zero_on at) (new.mine 0 (omega arith))

    second_mine : new.later.owner (at + 8) ≡ of_cell c
    second_mine = new.mine 1 (omega arith)

    one_put : WordPut new.later (grown (8 * 3) st.world) at n
    one_put = put_stored new.later (grown (8 * 3) st.world) at c n new.stored first_mine n_fits

    abbrev with_one_word : Layout
    with_one_word = with_word new.later at n

    two_put : WordPut with_one_word one_put.after (at + 8) x
    two_put = put_stored with_one_word one_put.after (at + 8) c x one_put.stored second_mine x_fits

    abbrev later : Layout
    later = with_word with_one_word (at + 8) x

    extends : Extends map later
    extends = extends_trans map new.later later new.extends (extends_trans new.later with_one_word later
        (extends_store new.later at n (of_a_cell new.later c at first_mine)) (extends_store with_one_word (at + 8) x (of_a_cell with_one_word c (at + 8) second_mine)))

    others : (d : ℕ) → c ≢ d → SameCell d map later
    others d k = same_trans d map new.later later (new.others d k) (same_trans d new.later with_one_word later
        (store_other new.later c d at n first_mine k) (store_other with_one_word c d (at + 8) x second_mine k))

    holds : Holds image later c (variant_cell fs s o)
    holds = (
      new.kind,
      subst (λ a. Own later c a n) (sym new.at) (record {
        whose = first_mine;
        is = put_there with_one_word.word (at + 8) x at (λ e. omega (arith, e)) ∙ put_here new.later.word at n;
      }),
      subst (λ a. CellularIf image later c (type_of_field fs s) o (a + 8)) (sym new.at) (subst (λ r. CellularIf image later c r o (at + 8)) (sym field) (record {
        whose = second_mine;
        shown = subst (λ v. At image later t o v) (sym (put_here with_one_word.word (at + 8) x)) (at_on image map later extends t o x shown);
      })),
    )

    abbrev st1 : State
    st1 = with_slots (put_slot 1 at) (stores (grown (3 * 8) st.world).next (with_world (grown (3 * 8) st.world) (counted 2 (counted 1 (turned st)))))

    abbrev st2 : State
    st2 = with_world one_put.after (counted 1 (counted 1 (turned st1)))

    abbrev st3 : State
    st3 = with_world two_put.after (counted 1 (counted 1 (turned st2)))

    abbrev now : State
    now = counted 1 (counted 1 (turned st3))

    below : at + 24 ≤ 2 ^ 63
    below = omega (arith, room, whole.limited)

    goes : (k : ℕ) → exec_all place.linked place.entries place.body place.live (variant_code n) (4 + k) st ≡ ended (meaning.returned (at ∷ [])) k now
    goes k =
        ap (λ turns. exec_all place.linked place.entries place.body place.live (variant_code n) turns st) (four k)
        ∙ allocate_step place.linked place.entries place.body place.live st (suc (suc (suc k))) 1 3 (word 3) _ (word_value (view place.linked st.slots st.world) 3)
        ∙ put_step place.linked place.entries place.body place.live st1 (suc (suc k)) 0 at n (slot 1) (word n) _ one_put.after (word_value (view place.linked st1.slots st1.world) n) (slot_value (view place.linked st1.slots st1.world) 1 at refl)
        (ap (λ p. put_word (grown (8 * 3) st.world) p n) (at_first at below) ∙ one_put.is)
        ∙ put_step place.linked place.entries place.body place.live st2 (suc k) 8 at x (slot 1) (slot 0) _ two_put.after (slot_value (view place.linked st2.slots st2.world) 0 x here) (slot_value (view place.linked st2.slots st2.world) 1 at refl)
        (ap (λ p. put_word one_put.after p x) (at_second at below) ∙ two_put.is)
        ∙ leave_step place.linked place.entries place.body place.live st3 k at (slot 1) _ (slot_value (view place.linked st3.slots st3.world) 1 at refl)
      where
        four : (k : ℕ) → 4 + k ≡ suc (suc (suc (suc k)))
        four k = omega arith

        at_first : (m : ℕ) → m + 24 ≤ 2 ^ 63 → (m + 0) % 2 ^ 64 ≡ m
        at_first m l = omega (arith, l)

        at_second : (m : ℕ) → m + 24 ≤ 2 ^ 63 → (m + 8) % 2 ^ 64 ≡ m + 8
        at_second m l = omega (arith, l)

    module _ (after : World) (cells : after.cells ≡ w.cells ++ variant_cell fs s o ∷ []) (input : after.input ≡ w.input) (output : after.output ≡ w.output) (words : w.words + 3 ≤ after.words) (work : w.work + 1 ≤ after.work) where
      made : (made : Made image map (variant_of fs) place (variant_code n) st (reference (variant_of fs) c) w after) × AreThere made.later after.cells
      made = (
        record {
          used = 4;
          now = now;
          v = at;
          later = later;
          goes = goes;
          extends = extends;
          stored = two_put.stored;
          heap = subst (λ cs. Heap image later cs) (sym cells) (heap_added image map later w.cells (variant_cell fs s o) extends others holds heap);
          shown = (refl, record { at = sym new.at; whose = first_mine; type_is = new.kind });
          input_kept = two_put.input_same ∙ one_put.input_same;
          output_kept = two_put.output_same ∙ one_put.output_same;
          input_same = input;
          output_same = output;
          store = omega (arith, two_put.next_same ∙ one_put.next_same, words);
          steps = counts st.meters.steps w.work after.work work;
          most = refl;
        },
        subst (λ cs. AreThere later cs) (sym cells) (λ a d e. new.there (variant_cell fs s o) a d e),
      )
        where
          counts : (m a b : ℕ) → a + 1 ≤ b → 1 + (1 + (1 + (1 + (1 + (1 + (2 + (1 + m))))))) + 256 * a ≤ m + 256 * b
          counts m a b l = omega (arith, l)

  -- with the heading that is found
  found_right : (image : Image) (map : Layout) (place : Place) (os : List Object) (w : World) (st : State) (store : Stored map st.world) → Heap image map w.cells → AreThere map w.cells → ((n v : ℕ) → st.slots n ≡ Some v → v < 2 ^ 64) →
      place_of_field fs s < 2 ^ 64 → InSlots image map (view place.linked st.slots st.world) (one t) 0 os →
      Returns (λ rs after. Fits image map place (variant_code (place_of_field fs s)) w st store.limit (one (variant_of fs)) rs (bound_in w after 0)) (variant_make fs s os (doing w (words_for_all (one t))))
  unfolding takes makes
  found_right image map place os w st store heap there small fits slots =
      one_argument (λ out. Returns (λ rs after. Fits image map place (variant_code (place_of_field fs s)) w st store.limit (one (variant_of fs)) rs (bound_in w after 0)) out) image map (view place.linked st.slots st.world) t
      (λ x. new_variant fs s x) os (doing w (words_for_all (one t))) slots (λ o u p k more.
      let d = record (doing w (words_for_all (one t))) { words = 0 + words_for_all (one t) + 3; work = 0 + words_for_all (one t) + 1 + 3 } in
      made image map place u o w st store heap there p k (small 0 u p) fits (omega (arith, more))
      (bound_in w (record d { cells = w.cells ++ variant_cell fs s o ∷ [] }) 0) refl refl (nothing_after w.output) (omega arith) (omega arith))

pub variants_right : MakesVariants
variants_right fs s t field fits image map place os w st store heap there small slots room =
    with_its_room image map place (variant_code (place_of_field fs s)) w st store.limit (results_of (operation (variant_of fs) (codes "make_" ++ s))) (prim (variant_of fs) (codes "make_" ++ s) os w) room
    (returns_of (Fits image map place (variant_code (place_of_field fs s)) w st store.limit) (variant_of fs) (codes "make_" ++ s) os w (λ fit.
    subst (λ b. Returns (λ rs after. Fits image map place (variant_code (place_of_field fs s)) w st store.limit (results_of (operation (variant_of fs) (codes "make_" ++ s))) rs (bound_in w after (words_for_all (results_of (operation (variant_of fs) (codes "make_" ++ s))))))
    (tried b os (doing w (words_for_all (args_of (operation (variant_of fs) (codes "make_" ++ s))))))) (sym (make_does fs s t field))
    (subst (λ h. Returns (λ rs after. Fits image map place (variant_code (place_of_field fs s)) w st store.limit (results_of h) rs (bound_in w after (words_for_all (results_of h)))) (variant_make fs s os (doing w (words_for_all (args_of h)))))
    (sym (make_found fs s t field))
    (found_right fs s t field image map place os w st store heap there small fits (subst (λ h. InSlots image map (view place.linked st.slots st.world) (args_of h) 0 os) (make_found fs s t field) slots)))))
