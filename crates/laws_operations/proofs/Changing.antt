-- change_s of variants: the number of the tag is put, and then the word of the value.
use Rattle.std.proofs.Common.{◌≡◌, ℕ, suc, ◌+◌, ◌*◌, ◌%◌, ◌^◌, ◌<◌, ◌≤◌, Bool, true, false, List, [], ◌∷◌, ◌++◌, length, None, Some, slice_get, slice_set, refl, sym, ap, ◌∙◌, subst, arith, bytes_eq, if◌then◌else◌}
use Rattle.std.specs.Prelude.{codes}
use Rattle.std.specs.Option.{option_map}
use Rattle.clu_types.specs.CluType.{CluType, CluTypes, Fields, no_fields, field_and, variant_of}
use Rattle.clu_builtin.specs.Operation.{Operation, none, quiet, two}
use Rattle.clu_builtin.specs.Table.{of_selectors, operation, or_else, variant_selectors}
use Rattle.clu_layout.specs.Objects.{Object, own_type, own_types, variant_cell}
use Rattle.clu_layout.specs.Actions.{World, Outcome, returned, signalled, wrong, changes, gives_all, gives_nothing, with_variant}
use Rattle.clu_layout.specs.OneofOperations.{variant_change, variant_primitives, variant_selected}
use Rattle.clu_layout.specs.Primitive.{may_be_argument, may_be_arguments, prim, primitive, words_for_all}
use Rattle.clu_wir.specs.Plain.{Stmts, slot, word}
use Rattle.clu_word_meaning.specs.World.{put_word}
use Rattle.clu_word_meaning.specs.Words.{State, counted, ended, exec_all, turned, view, with_world}
use Rattle.clu_word_meaning.specs.Words as meaning
use Rattle.clu_representation.specs.Layout.{Image, Layout, of_cell, with_word}
use Rattle.clu_representation.specs.Held.{Heap, Holds}
use Rattle.clu_representation.specs.Shown.{At, Bare, place_of_field, type_of_field}
use Rattle.clu_representation.specs.Stored.{Stored, WordPut}
use Rattle.clu_representation.proofs.Changes.{extends_store, extends_trans}
use Rattle.clu_representation.proofs.Lists.{length_set}
use Rattle.clu_representation.proofs.OwnPuts.{of_a_cell, value_word_mine}
use Rattle.clu_representation.proofs.Reading.{word_end}
use Rattle.clu_representation.proofs.Whole.{variant_changed}
use Rattle.clu_representation.proofs.Writing.{put_stored}
use Rattle.laws_operations.specs.CellSteps.{Changed, Changes, ChangesVariants, change_code}
use Rattle.laws_operations.specs.Comes.{InSlots}
use Rattle.laws_operations.specs.Rows.{args_of, results_of}
use Rattle.laws_operations.specs.Steps.{Place}
use Rattle.laws_operations.proofs.ComponentLoads.{of_cell_variant, variant_fields}
use Rattle.laws_operations.proofs.Doing.{doing, nothing_after, tried}
use Rattle.laws_operations.proofs.Invoking.{Returns, bound_in, returns_of}
use Rattle.laws_operations.proofs.Puts.{slot_value, two_given}
use Rattle.laws_operations.proofs.Running.{leave_nothing, put_step}
use Rattle.laws_operations.proofs.Selected.{first_one, found}
use Rattle.laws_operations.proofs.Sameness.{word_value}

-- ---- the row

abbrev change_heading : CluType → CluType → Operation
change_heading T t = record { iter = false; args = two T t; results = none; signals = quiet; needs = [] }

variant_changes : (T : CluType) (s : List ℕ) (fs : Fields) → of_selectors (variant_selectors T) fs (codes "change_" ++ s) ≡ option_map (change_heading T) (type_of_field fs s)
variant_changes T s no_fields = refl
variant_changes T s (field_and name t fs) = by (bytes_eq name s) (variant_changes T s fs)
  where
    by : (b : Bool) → of_selectors (variant_selectors T) fs (codes "change_" ++ s) ≡ option_map (change_heading T) (type_of_field fs s) →
        or_else (if b then Some (change_heading T t) else None) (of_selectors (variant_selectors T) fs (codes "change_" ++ s)) ≡ option_map (change_heading T) (if b then Some t else type_of_field fs s)
    by true again = refl
    by false again = again

-- where nothing is signalled
abbrev pub Changing : Image → Layout → Place → Stmts → State → World → CluTypes → List Object → World → Type 0
Changing image map place code st w types [] after = Changed image map place code st w after
Changing image map place code st w types (o ∷ os) after = ⊥

changes_of : (image : Image) (map : Layout) (place : Place) (code : Stmts) (st : State) (w : World) (types : CluTypes) (out : Outcome) → Returns (Changing image map place code st w types) out → Changes image map place code st w out
changes_of image map place code st w types (returned [] after) h = h
changes_of image map place code st w types (returned (o ∷ os) after) h = absurd h
changes_of image map place code st w types (signalled name os after) h = absurd h
changes_of image map place code st w types wrong h = tt

module _ (fs : Fields) (s : List ℕ) (t : CluType) (field : type_of_field fs s ≡ Some t) where
  change_found : operation (variant_of fs) (codes "change_" ++ s) ≡ Some (change_heading (variant_of fs) t)
  change_found = first_one _ _ (change_heading (variant_of fs)) (type_of_field fs s) t (variant_changes (variant_of fs) s fs) field

  change_does : primitive (variant_of fs) (codes "change_" ++ s) ≡ Some (variant_change s)
  change_does = found (variant_selected fs) variant_primitives (λ s. codes "change_" ++ s) variant_change (record { here = λ name s rest. refl }) fs s t field

  -- ---- what the code does

  module _ (image : Image) (map : Layout) (place : Place) (u x : ℕ) (y : Object) (w : World) (st : State) (store : Stored map st.world) (heap : Heap image map w.cells) (c : ℕ) (tag : List ℕ) (o : Object)
      (is : slice_get w.cells c ≡ Some (variant_cell fs tag o)) (here : st.slots 0 ≡ Some u) (value : st.slots 1 ≡ Some x) (at : u ≡ map.address c) (shown : At image map t y x) (x_fits : x < 2 ^ 64) (n_fits : place_of_field fs s < 2 ^ 64) where
    abbrev n : ℕ
    n = place_of_field fs s

    abbrev a : ℕ
    a = map.address c

    held : Holds image map c (variant_cell fs tag o)
    held = heap c (variant_cell fs tag o) is

    first_mine : map.owner a ≡ of_cell c
    first_mine = held.1.whose

    second_mine : map.owner (a + 8) ≡ of_cell c
    second_mine = value_word_mine image map c (type_of_field fs tag) o (a + 8) held.2

    one_put : WordPut map st.world a n
    one_put = put_stored map st.world a c n store first_mine n_fits

    abbrev with_one_word : Layout
    with_one_word = with_word map a n

    two_put : WordPut with_one_word one_put.after (a + 8) x
    two_put = put_stored with_one_word one_put.after (a + 8) c x one_put.stored second_mine x_fits

    abbrev later : Layout
    later = with_word with_one_word (a + 8) x

    abbrev st1 : State
    st1 = with_world one_put.after (counted 1 (counted 1 (turned st)))

    abbrev st2 : State
    st2 = with_world two_put.after (counted 1 (counted 1 (turned st1)))

    abbrev now : State
    now = counted 1 (turned st2)

    -- the words lie in the store
    below : a + 16 ≤ 2 ^ 63
    below = omega (arith, word_end st.world store.bytes (a + 8) (map.word (a + 8)) (store.words (a + 8) (λ e. absurd (cc (sym second_mine ∙ e)))), store.end)

    goes : (k : ℕ) → exec_all place.linked place.entries place.body place.live (change_code n) (3 + k) st ≡ ended (meaning.returned []) k now
    goes k =
        ap (λ turns. exec_all place.linked place.entries place.body place.live (change_code n) turns st) (three k)
        ∙ put_step place.linked place.entries place.body place.live st (suc (suc k)) 0 a n (slot 0) (word n) _ one_put.after (word_value (view place.linked st.slots st.world) n) (slot_value (view place.linked st.slots st.world) 0 a (here ∙ ap Some at))
        (ap (λ p. put_word st.world p n) (at_first a below) ∙ one_put.is)
        ∙ put_step place.linked place.entries place.body place.live st1 (suc k) 8 a x (slot 0) (slot 1) _ two_put.after (slot_value (view place.linked st1.slots st1.world) 1 x value) (slot_value (view place.linked st1.slots st1.world) 0 a (here ∙ ap Some at))
        (ap (λ p. put_word one_put.after p x) (at_second a below) ∙ two_put.is)
        ∙ leave_nothing place.linked place.entries place.body place.live st2 k _
      where
        three : (k : ℕ) → 3 + k ≡ suc (suc (suc k))
        three k = omega arith

        at_first : (m : ℕ) → m + 16 ≤ 2 ^ 63 → (m + 0) % 2 ^ 64 ≡ m
        at_first m l = omega (arith, l)

        at_second : (m : ℕ) → m + 16 ≤ 2 ^ 63 → (m + 8) % 2 ^ 64 ≡ m + 8
        at_second m l = omega (arith, l)

    module _ (after : World) (cells : after.cells ≡ slice_set w.cells c (variant_cell fs s y)) (input : after.input ≡ w.input) (output : after.output ≡ w.output) (words : w.words ≤ after.words) (work : w.work + 1 ≤ after.work) where
      changed : Changed image map place (change_code n) st w after
      changed = record {
        used = 3;
        now = now;
        later = later;
        goes = goes;
        extends = extends_trans map with_one_word later (extends_store map a n (of_a_cell map c a first_mine)) (extends_store with_one_word (a + 8) x (of_a_cell with_one_word c (a + 8) second_mine));
        stored = two_put.stored;
        heap = subst (λ cs. Heap image later cs) (sym cells) (variant_changed image map w.cells c fs tag s o y t x heap is field shown);
        there = λ h p d e. subst (λ m. d < m) (sym (ap length cells ∙ length_set w.cells c (variant_cell fs s y))) (h p d e);
        input_kept = two_put.input_same ∙ one_put.input_same;
        output_kept = two_put.output_same ∙ one_put.output_same;
        input_same = input;
        output_same = output;
        next = two_put.next_same ∙ one_put.next_same;
        words = words;
        steps = counts_up st.meters.steps w.work after.work work;
        most = refl;
      }
        where
          counts_up : (m a b : ℕ) → a + 1 ≤ b → 1 + (1 + (1 + (1 + (1 + m)))) + 256 * a ≤ m + 256 * b
          counts_up m a b l = omega (arith, l)

  abbrev Goal : Image → Layout → Place → State → World → Outcome → Type 0
  Goal image map place st w out = Returns (λ rs after. Changing image map place (change_code (place_of_field fs s)) st w none rs (bound_in w after 0)) out

  -- with the heading that is found
  found_right : (image : Image) (map : Layout) (place : Place) (os : List Object) (w : World) (st : State) → Stored map st.world → Heap image map w.cells → ((n v : ℕ) → st.slots n ≡ Some v → v < 2 ^ 64) →
      place_of_field fs s < 2 ^ 64 → InSlots image map (view place.linked st.slots st.world) (two (variant_of fs) t) 0 os → may_be_arguments (variant_of fs) (own_types os) (two (variant_of fs) t) ≡ true →
      Goal image map place st w (variant_change s os (doing w (words_for_all (two (variant_of fs) t))))
  unfolding changes gives_all
  found_right image map place os w st store heap small fits slots fit =
      let d = doing w (words_for_all (two (variant_of fs) t)) in
      two_given image map (view place.linked st.slots st.world) (Goal image map place st w) (variant_of fs) (variant_of fs) t
      (λ r y. with_variant r (λ c gs tag x. changes c (variant_cell gs s y) gives_nothing)) os d slots fit (λ r y u v p q k l g.
      of_cell_variant (Goal image map place st w) tt r (λ c gs tag x. changes c (variant_cell gs s y) gives_nothing) d (λ kind c gs tag x e is.
      let shown = subst (λ b. Bare image map b u) e k in
      let are = variant_fields gs fs (map.kind c) kind shown.1.type_is (heap c (variant_cell gs tag x) is).0 (subst (λ b. may_be_argument (variant_of fs) (own_type b) (variant_of fs) ≡ true) e g) in
      subst (λ f. Goal image map place st w (changes c (variant_cell f s y) gives_nothing d)) (sym are)
      (changed image map place u v y w st store heap c tag x (subst (λ f. slice_get w.cells c ≡ Some (variant_cell f tag x)) are is) p q shown.1.at l (small 1 v q) fits
      (bound_in w (record d { cells = slice_set w.cells c (variant_cell fs s y) }) 0) refl refl (nothing_after w.output) (omega arith) (omega arith))))

pub changes_right : ChangesVariants
changes_right fs s t field fits image map place os w st store heap small slots =
    changes_of image map place (change_code (place_of_field fs s)) st w (results_of (operation (variant_of fs) (codes "change_" ++ s))) (prim (variant_of fs) (codes "change_" ++ s) os w)
    (returns_of (Changing image map place (change_code (place_of_field fs s)) st w) (variant_of fs) (codes "change_" ++ s) os w (λ fit.
    subst (λ b. Returns (λ rs after. Changing image map place (change_code (place_of_field fs s)) st w (results_of (operation (variant_of fs) (codes "change_" ++ s))) rs (bound_in w after (words_for_all (results_of (operation (variant_of fs) (codes "change_" ++ s))))))
    (tried b os (doing w (words_for_all (args_of (operation (variant_of fs) (codes "change_" ++ s))))))) (sym (change_does fs s t field))
    (subst (λ h. Returns (λ rs after. Changing image map place (change_code (place_of_field fs s)) st w (results_of h) rs (bound_in w after (words_for_all (results_of h)))) (variant_change s os (doing w (words_for_all (args_of h)))))
    (sym (change_found fs s t field))
    (found_right fs s t field image map place os w st store heap small fits (subst (λ h. InSlots image map (view place.linked st.slots st.world) (args_of h) 0 os) (change_found fs s t field) slots)
    (subst (λ h. may_be_arguments (variant_of fs) (own_types os) (args_of h) ≡ true) (change_found fs s t field) fit)))))
