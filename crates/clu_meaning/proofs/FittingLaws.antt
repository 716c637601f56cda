-- Actions whose cells and objects fit: what the parts of operations say of this.
use Rattle.std.proofs.Common.{◌≡◌, refl, sym, ap, subst, ◌∙◌, arith}
use Rattle.std.proofs.lemmas.Bool.{and_parts}
use Rattle.std.specs.Prelude.{ℕ, zero, suc, ◌≤◌, ℤ, Bool, true, false, List, [], ◌∷◌, ◌++◌, length, Option, Some, None, slice_get, slice_set}
use Rattle.std.specs.Option.{option_map}
use Rattle.clu_types.specs.CluType.{CluType, null_type, array_of, sequence_of, record_of, struct_of, variant_of, CluTypes, Fields}
use Rattle.clu_builtin.specs.Operation.{one, two, three}
use Rattle.clu_builtin.specs.Table.{parts_of}
use Rattle.clu_builtin.specs.declared.names.Signal.{Signal}
use Rattle.clu_layout.specs.Objects.{Stream, input_stream, output_stream, Routine, Object, bool_object, int_object, char_object, string_object, stream_object, sequence_object, struct_object, oneof_object, routine_object, reference, listed, inside, Array, Cell, array_cell, record_cell, variant_cell, cell_type, own_type, own_types}
use Rattle.clu_layout.specs.SameType.{all_fit}
use Rattle.clu_layout.specs.StreamOperations.{reads, leaves, writes}
use Rattle.clu_layout.specs.Actions.{World, Outcome, returned, signalled, wrong, Action, gives_all, signals_with, no_case, signals_if, or_signals, either, or_fails, need, needed, continued, and_then, counts, takes, with_none, with_one, with_two, with_three, with_bool, with_int, with_char, with_string, with_stream, with_routine, with_sequence, with_struct, with_oneof, with_cell, as_array, as_record, as_variant, with_array, with_record, with_variant, makes, changes, fresh_array, new_array, new_sequence, new_struct, new_record, new_oneof, new_variant}
use Rattle.clu_layout.specs.Primitive.{binds, same_for_each, may_be_argument, may_be_arguments}
use Rattle.clu_layout.proofs.Laws.{listed_inside}
use Rattle.clu_layout.proofs.CellLaws.{kind_at, Longer, longer_refl, longer_added, longer_trans, keeps_gives, keeps_changes}
use Rattle.clu_meaning.specs.Programs.{Program}
use Rattle.clu_meaning.specs.Typed.{type_of_selector, fits_in, IsTyped, AllTyped, CellFits, EachFits}
use Rattle.clu_meaning.proofs.TypedFacts.{all_on, cell_on, each_on}
use Rattle.clu_meaning.proofs.TypedElements.{listed_typed, inside_typed, Each, each_typed, each_fit}

-- ---- cells

-- the type in an answer that is there
abbrev type_in : Option CluType → CluType
type_in (Some t) = t
type_in None = null_type

module _ (program : Program) (lawful : Routine → Type 0) where
  each_added : (a cells : List Cell) (cell : Cell) → EachFits program lawful a cells → CellFits program lawful a cell → EachFits program lawful a (cells ++ cell ∷ [])
  each_added a [] cell h k = (k, tt)
  each_added a (x ∷ xs) cell h k = (h.0, each_added a xs cell h.1 k)

  each_set : (a cells : List Cell) (c : ℕ) (cell : Cell) → EachFits program lawful a cells → CellFits program lawful a cell → EachFits program lawful a (slice_set cells c cell)
  each_set a [] c cell h k = tt
  each_set a (x ∷ xs) zero cell h k = (k, h.1)
  each_set a (x ∷ xs) (suc c) cell h k = (h.0, each_set a xs c cell h.1 k)

  abbrev FitsIfThere : List Cell → Option Cell → Type 0
  FitsIfThere a None = Unit {0}
  FitsIfThere a (Some cell) = CellFits program lawful a cell

  each_found : (a cells : List Cell) (c : ℕ) → EachFits program lawful a cells → FitsIfThere a (slice_get cells c)
  each_found a [] c h = tt
  each_found a (x ∷ xs) zero h = h.0
  each_found a (x ∷ xs) (suc c) h = each_found a xs c h.1

  pub cell_found : (a cells : List Cell) (c : ℕ) (cell : Cell) → EachFits program lawful a cells → slice_get cells c ≡ Some cell → CellFits program lawful a cell
  cell_found a cells c cell h e = subst (FitsIfThere a) e (each_found a cells c h)

last_kind : (cells : List Cell) (cell : Cell) → option_map cell_type (slice_get (cells ++ cell ∷ []) (length cells)) ≡ Some (cell_type cell)
last_kind [] cell = refl
last_kind (x ∷ xs) cell = last_kind xs cell

longer_changed : (w : World) (c : ℕ) (cell : Cell) → kind_at w.cells c ≡ Some (cell_type cell) → Longer w.cells (slice_set w.cells c cell)
unfolding changes gives_all
longer_changed w c cell same = (keeps_changes w.cells c cell (gives_all []) same (keeps_gives w.cells [])).at w (longer_refl w.cells)

-- ---- what holds of outcomes and actions: the cells fit, have kept their types, and the objects are typed

module _ (program : Program) (lawful : Routine → Type 0) where
  abbrev pub Makes : List Cell → Outcome → Type 0
  Makes base (returned os w) = EachFits program lawful w.cells w.cells × Longer base w.cells × AllTyped program lawful w.cells os
  Makes base (signalled name os w) = EachFits program lawful w.cells w.cells × Longer base w.cells × AllTyped program lawful w.cells os
  Makes base wrong = Unit {0}

  pub record Fitting (base : List Cell) (action : Action) : Type 0 where
    pub at : (w : World) → EachFits program lawful w.cells w.cells → Longer base w.cells → Makes base (action w)

  made_from : (a b : List Cell) (o : Outcome) → Longer a b → Makes b o → Makes a o
  made_from a b (returned os w) l h = (h.0, longer_trans a b w.cells l h.1, h.2)
  made_from a b (signalled name os w) l h = (h.0, longer_trans a b w.cells l h.1, h.2)
  made_from a b wrong l h = tt

module _ (program : Program) (lawful : Routine → Type 0) (base : List Cell) where
  pub fitting_gives : (os : List Object) → AllTyped program lawful base os → Fitting program lawful base (gives_all os)
  unfolding gives_all
  fitting_gives os t = record { at = λ w e l. (e, l, all_on program lawful base w.cells l os t) }

  pub fitting_signals : (name : List ℕ) (os : List Object) → AllTyped program lawful base os → Fitting program lawful base (signals_with name os)
  unfolding signals_with
  fitting_signals name os t = record { at = λ w e l. (e, l, all_on program lawful base w.cells l os t) }

  pub fitting_no_case : Fitting program lawful base no_case
  unfolding no_case
  fitting_no_case = record { at = λ w e l. tt }

  pub fitting_signals_if : (s : Signal) (b : Bool) (rest : Action) → Fitting program lawful base rest → Fitting program lawful base (signals_if s b rest)
  unfolding signals_if
  fitting_signals_if s true rest h = fitting_signals _ [] tt
  fitting_signals_if s false rest h = h

  pub fitting_or_signals : {A : Type 0} (s : Signal) (found : Option A) (rest : A → Action) → ((x : A) → found ≡ Some x → Fitting program lawful base (rest x)) → Fitting program lawful base (or_signals s found rest)
  unfolding or_signals
  fitting_or_signals s None rest h = fitting_signals _ [] tt
  fitting_or_signals s (Some x) rest h = h x refl

  pub fitting_either : (b : Bool) (first second : Action) → (b ≡ true → Fitting program lawful base first) → (b ≡ false → Fitting program lawful base second) → Fitting program lawful base (either b first second)
  unfolding either
  fitting_either true first second f g = f refl
  fitting_either false first second f g = g refl

  pub fitting_or_fails : (text : List ℕ) (b : Bool) (rest : Action) → (b ≡ true → Fitting program lawful base rest) → Fitting program lawful base (or_fails text b rest)
  unfolding or_fails
  fitting_or_fails text true rest h = h refl
  fitting_or_fails text false rest h = fitting_signals _ (string_object text ∷ []) (tt, tt)

  pub fitting_need : (b : Bool) (rest : Action) → (b ≡ true → Fitting program lawful base rest) → Fitting program lawful base (need b rest)
  unfolding need
  fitting_need true rest h = h refl
  fitting_need false rest h = fitting_no_case

  pub fitting_needed : {A : Type 0} (found : Option A) (rest : A → Action) → ((x : A) → found ≡ Some x → Fitting program lawful base (rest x)) → Fitting program lawful base (needed found rest)
  unfolding needed
  fitting_needed None rest h = fitting_no_case
  fitting_needed (Some x) rest h = h x refl

  continued_makes : (rest : List Object → Action) (o : Outcome) → Makes program lawful base o →
      ((cells : List Cell) → Longer base cells → (os : List Object) → AllTyped program lawful cells os → Fitting program lawful cells (rest os)) → Makes program lawful base (continued rest o)
  unfolding continued
  continued_makes rest (returned os w) h f = made_from program lawful base w.cells (rest os w) h.1 ((f w.cells h.1 os h.2).at w h.0 (longer_refl w.cells))
  continued_makes rest (signalled name os w) h f = h
  continued_makes rest wrong h f = tt

  pub fitting_and_then : (first : Action) (rest : List Object → Action) → Fitting program lawful base first →
      ((cells : List Cell) → Longer base cells → (os : List Object) → AllTyped program lawful cells os → Fitting program lawful cells (rest os)) → Fitting program lawful base (and_then first rest)
  unfolding and_then
  fitting_and_then first rest g f = record { at = λ w e l. continued_makes rest (first w) (g.at w e l) f }

  pub fitting_counts : (n : ℕ) (rest : Action) → Fitting program lawful base rest → Fitting program lawful base (counts n rest)
  unfolding counts
  fitting_counts n rest h = record { at = λ w e l. h.at _ e l }

  pub fitting_takes : (n : ℕ) (rest : Action) → Fitting program lawful base rest → Fitting program lawful base (takes n rest)
  unfolding takes
  fitting_takes n rest h = record { at = λ w e l. h.at _ e l }

  pub fitting_leaves : (left : List ℕ) (rest : Action) → Fitting program lawful base rest → Fitting program lawful base (leaves left rest)
  unfolding leaves
  fitting_leaves left rest h = record { at = λ w e l. h.at _ e l }

  pub fitting_reads : (s : Stream) (rest : List ℕ → Action) → ((left : List ℕ) → Fitting program lawful base (rest left)) → Fitting program lawful base (reads s rest)
  unfolding reads
  fitting_reads input_stream rest h = record { at = λ w e l. (h w.input).at w e l }
  fitting_reads output_stream rest h = record { at = λ w e l. (fitting_signals _ (string_object _ ∷ []) (tt, tt)).at w e l }

  pub fitting_writes : (s : Stream) (bytes : List ℕ) → Fitting program lawful base (writes s bytes)
  unfolding writes
  fitting_writes input_stream bytes = record { at = λ w e l. (fitting_signals _ (string_object _ ∷ []) (tt, tt)).at w e l }
  fitting_writes output_stream bytes = record { at = λ w e l. (fitting_gives [] tt).at _ e l }

  pub fitting_binds : (types : CluTypes) (os : List Object) (rest : Action) → (all_fit (own_types os) types ≡ true → Fitting program lawful base rest) → Fitting program lawful base (binds types os rest)
  fitting_binds types os rest h = fitting_need _ _ (λ fit. fitting_takes _ _ (h fit))

  -- ---- cells are made and changed

  pub fitting_makes : (cell : Cell) → CellFits program lawful base cell → Fitting program lawful base (makes cell)
  unfolding makes
  fitting_makes cell h = record {
    at = λ w e l.
        let longer = longer_added w.cells cell in (
          each_added program lawful (w.cells ++ cell ∷ []) w.cells cell (each_on program lawful w.cells (w.cells ++ cell ∷ []) longer w.cells e)
              (cell_on program lawful base (w.cells ++ cell ∷ []) (longer_trans base w.cells (w.cells ++ cell ∷ []) l longer) cell h),
          longer_trans base w.cells (w.cells ++ cell ∷ []) l longer,
          (last_kind w.cells cell, tt),
        );
  }

  pub fitting_changes : (c : ℕ) (cell : Cell) (rest : Action) → kind_at base c ≡ Some (cell_type cell) → CellFits program lawful base cell → Fitting program lawful base rest →
      Fitting program lawful base (changes c cell rest)
  unfolding changes
  fitting_changes c cell rest same h f = record {
    at = λ w e l.
        let longer = longer_changed w c cell (l.at c (cell_type cell) same) in
        f.at (record w { cells = slice_set w.cells c cell })
        (each_set program lawful (slice_set w.cells c cell) w.cells c cell (each_on program lawful w.cells (slice_set w.cells c cell) longer w.cells e)
        (cell_on program lawful base (slice_set w.cells c cell) (longer_trans base w.cells (slice_set w.cells c cell) l longer) cell h))
        (longer_trans base w.cells (slice_set w.cells c cell) l longer);
  }

  -- ---- what opens arguments

  pub fitting_none : (os : List Object) (rest : Action) → Fitting program lawful base rest → Fitting program lawful base (with_none os rest)
  unfolding with_none
  fitting_none [] rest h = h
  fitting_none (a ∷ os) rest h = fitting_no_case

  pub fitting_one : (os : List Object) (rest : Object → Action) → AllTyped program lawful base os → ((a : Object) → IsTyped program lawful base a → Fitting program lawful base (rest a)) →
      Fitting program lawful base (with_one os rest)
  unfolding with_one
  fitting_one (a ∷ []) rest t h = h a t.0
  fitting_one [] rest t h = fitting_no_case
  fitting_one (a ∷ b ∷ os) rest t h = fitting_no_case

  pub fitting_two : (os : List Object) (rest : Object → Object → Action) → AllTyped program lawful base os →
      ((a b : Object) → IsTyped program lawful base a → IsTyped program lawful base b → Fitting program lawful base (rest a b)) → Fitting program lawful base (with_two os rest)
  unfolding with_two
  fitting_two (a ∷ b ∷ []) rest t h = h a b t.0 t.1.0
  fitting_two [] rest t h = fitting_no_case
  fitting_two (a ∷ []) rest t h = fitting_no_case
  fitting_two (a ∷ b ∷ c ∷ os) rest t h = fitting_no_case

  pub fitting_three : (os : List Object) (rest : Object → Object → Object → Action) → AllTyped program lawful base os →
      ((a b c : Object) → IsTyped program lawful base a → IsTyped program lawful base b → IsTyped program lawful base c → Fitting program lawful base (rest a b c)) → Fitting program lawful base (with_three os rest)
  unfolding with_three
  fitting_three (a ∷ b ∷ c ∷ []) rest t h = h a b c t.0 t.1.0 t.1.1.0
  fitting_three [] rest t h = fitting_no_case
  fitting_three (a ∷ []) rest t h = fitting_no_case
  fitting_three (a ∷ b ∷ []) rest t h = fitting_no_case
  fitting_three (a ∷ b ∷ c ∷ d ∷ os) rest t h = fitting_no_case

  -- the same of arguments that may be bound to these formals
  module _ (T : CluType) where
    pub suited_one : (u : CluType) (os : List Object) (rest : Object → Action) → AllTyped program lawful base os → may_be_arguments T (own_types os) (one u) ≡ true →
        ((a : Object) → IsTyped program lawful base a → may_be_argument T (own_type a) u ≡ true → Fitting program lawful base (rest a)) → Fitting program lawful base (with_one os rest)
    unfolding with_one
    suited_one u (a ∷ []) rest t s h = h a t.0 (and_parts (may_be_argument T (own_type a) u) true s).0
    suited_one u [] rest t s h = fitting_no_case
    suited_one u (a ∷ b ∷ os) rest t s h = fitting_no_case

    pub suited_two : (u v : CluType) (os : List Object) (rest : Object → Object → Action) → AllTyped program lawful base os → may_be_arguments T (own_types os) (two u v) ≡ true →
        ((a b : Object) → IsTyped program lawful base a → IsTyped program lawful base b → may_be_argument T (own_type a) u ≡ true → may_be_argument T (own_type b) v ≡ true → Fitting program lawful base (rest a b)) →
        Fitting program lawful base (with_two os rest)
    unfolding with_two
    suited_two u v (a ∷ b ∷ []) rest t s h =
        let first = and_parts (may_be_argument T (own_type a) u) (may_be_arguments T (own_types (b ∷ [])) (one v)) s in
        h a b t.0 t.1.0 first.0 (and_parts (may_be_argument T (own_type b) v) true first.1).0
    suited_two u v [] rest t s h = fitting_no_case
    suited_two u v (a ∷ []) rest t s h = fitting_no_case
    suited_two u v (a ∷ b ∷ c ∷ os) rest t s h = fitting_no_case

    pub suited_three : (u v x : CluType) (os : List Object) (rest : Object → Object → Object → Action) → AllTyped program lawful base os →
        may_be_arguments T (own_types os) (three u v x) ≡ true →
        ((a b c : Object) → IsTyped program lawful base a → IsTyped program lawful base b → IsTyped program lawful base c → may_be_argument T (own_type a) u ≡ true → may_be_argument T (own_type b) v ≡ true →
        may_be_argument T (own_type c) x ≡ true → Fitting program lawful base (rest a b c)) → Fitting program lawful base (with_three os rest)
    unfolding with_three
    suited_three u v x (a ∷ b ∷ c ∷ []) rest t s h =
        let first = and_parts (may_be_argument T (own_type a) u) (may_be_arguments T (own_types (b ∷ c ∷ [])) (two v x)) s in
        let second = and_parts (may_be_argument T (own_type b) v) (may_be_arguments T (own_types (c ∷ [])) (one x)) first.1 in
        h a b c t.0 t.1.0 t.1.1.0 first.0 second.0 (and_parts (may_be_argument T (own_type c) x) true second.1).0
    suited_three u v x [] rest t s h = fitting_no_case
    suited_three u v x (a ∷ []) rest t s h = fitting_no_case
    suited_three u v x (a ∷ b ∷ []) rest t s h = fitting_no_case
    suited_three u v x (a ∷ b ∷ c ∷ d ∷ os) rest t s h = fitting_no_case

  pub fitting_bool : (o : Object) (rest : Bool → Action) → ((x : Bool) → Fitting program lawful base (rest x)) → Fitting program lawful base (with_bool o rest)
  unfolding with_bool
  fitting_bool (bool_object b) rest h = h b
  fitting_bool _ rest h = fitting_no_case

  pub fitting_int : (o : Object) (rest : ℤ → Action) → ((x : ℤ) → Fitting program lawful base (rest x)) → Fitting program lawful base (with_int o rest)
  unfolding with_int
  fitting_int (int_object n) rest h = h n
  fitting_int _ rest h = fitting_no_case

  pub fitting_char : (o : Object) (rest : ℕ → Action) → ((x : ℕ) → Fitting program lawful base (rest x)) → Fitting program lawful base (with_char o rest)
  unfolding with_char
  fitting_char (char_object c) rest h = h c
  fitting_char _ rest h = fitting_no_case

  pub fitting_string : (o : Object) (rest : List ℕ → Action) → ((x : List ℕ) → Fitting program lawful base (rest x)) → Fitting program lawful base (with_string o rest)
  unfolding with_string
  fitting_string (string_object s) rest h = h s
  fitting_string _ rest h = fitting_no_case

  pub fitting_stream : (o : Object) (rest : Stream → Action) → ((x : Stream) → Fitting program lawful base (rest x)) → Fitting program lawful base (with_stream o rest)
  unfolding with_stream
  fitting_stream (stream_object s) rest h = h s
  fitting_stream _ rest h = fitting_no_case

  pub fitting_routine : (o : Object) (rest : Routine → Action) → ((x : Routine) → Fitting program lawful base (rest x)) → Fitting program lawful base (with_routine o rest)
  unfolding with_routine
  fitting_routine (routine_object r heading) rest h = h r
  fitting_routine _ rest h = fitting_no_case

  pub fitting_cell : (o : Object) (rest : ℕ → Action) → ((c : ℕ) → Fitting program lawful base (rest c)) → Fitting program lawful base (with_cell o rest)
  unfolding with_cell
  fitting_cell (reference t c) rest h = h c
  fitting_cell _ rest h = fitting_no_case

  pub fitting_sequence : (o : Object) (rest : List Object → Action) → IsTyped program lawful base o →
      ((t : CluType) (xs : List Object) → own_type o ≡ sequence_of t → AllTyped program lawful base xs → all_fit (own_types xs) (same_for_each t xs) ≡ true → Fitting program lawful base (rest xs)) →
      Fitting program lawful base (with_sequence o rest)
  unfolding with_sequence
  fitting_sequence (sequence_object t xs) rest typed h = h t (listed xs) refl (listed_typed program lawful base xs typed.0) typed.1
  fitting_sequence _ rest typed h = fitting_no_case

  pub fitting_struct : (o : Object) (rest : Fields → List Object → Action) → IsTyped program lawful base o →
      ((fs : Fields) (xs : List Object) → own_type o ≡ struct_of fs → AllTyped program lawful base xs → all_fit (own_types xs) (parts_of fs) ≡ true → Fitting program lawful base (rest fs xs)) →
      Fitting program lawful base (with_struct o rest)
  unfolding with_struct
  fitting_struct (struct_object fs xs) rest typed h = h fs (listed xs) refl (listed_typed program lawful base xs typed.0) typed.1
  fitting_struct _ rest typed h = fitting_no_case

  pub fitting_oneof : (o : Object) (rest : List ℕ → Object → Action) → IsTyped program lawful base o → ((tag : List ℕ) (x : Object) → IsTyped program lawful base x → Fitting program lawful base (rest tag x)) →
      Fitting program lawful base (with_oneof o rest)
  unfolding with_oneof
  fitting_oneof (oneof_object fs tag x) rest typed h = h tag x typed.0
  fitting_oneof _ rest typed h = fitting_no_case

  -- a mutable object is found in the cells of then, in which it is of the reference's type

  array_found : (w : World) (c : ℕ) (t : CluType) (rest : Array → Action) → EachFits program lawful w.cells w.cells → Longer base w.cells → kind_at w.cells c ≡ Some t →
      ((cells : List Cell) → Longer base cells → (a : Array) → kind_at cells c ≡ Some (array_of a.element) → t ≡ array_of a.element → CellFits program lawful cells (array_cell a) → Fitting program lawful cells (rest a)) →
      (found : Option Cell) → slice_get w.cells c ≡ found → Makes program lawful base (as_array found rest w)
  unfolding as_array no_case
  array_found w c t rest e l same h (Some (array_cell a)) is =
      let kind = ap (option_map cell_type) is in
      made_from program lawful base w.cells (rest a w) l
      ((h w.cells l a kind (ap type_in (sym same ∙ kind)) (cell_found program lawful w.cells w.cells c (array_cell a) e is)).at w e (longer_refl w.cells))
  array_found w c t rest e l same h _ is = tt

  pub fitting_array : (o : Object) (rest : ℕ → Array → Action) → IsTyped program lawful base o →
      ((cells : List Cell) → Longer base cells → (c : ℕ) (a : Array) → kind_at cells c ≡ Some (array_of a.element) → own_type o ≡ array_of a.element → CellFits program lawful cells (array_cell a) → Fitting program lawful cells (rest c a)) →
      Fitting program lawful base (with_array o rest)
  unfolding with_array with_cell
  fitting_array (reference t c) rest typed h = record {
    at = λ w e l. array_found w c t (rest c) e l (l.at c t typed) (λ cells longer a. h cells longer c a) (slice_get w.cells c) refl;
  }
  fitting_array _ rest typed h = fitting_no_case

  record_found : (w : World) (c : ℕ) (t : CluType) (rest : Fields → List Object → Action) → EachFits program lawful w.cells w.cells → Longer base w.cells → kind_at w.cells c ≡ Some t →
      ((cells : List Cell) → Longer base cells → (fs : Fields) (xs : List Object) → kind_at cells c ≡ Some (record_of fs) → t ≡ record_of fs → CellFits program lawful cells (record_cell fs xs) → Fitting program lawful cells (rest fs xs)) →
      (found : Option Cell) → slice_get w.cells c ≡ found → Makes program lawful base (as_record found rest w)
  unfolding as_record no_case
  record_found w c t rest e l same h (Some (record_cell fs xs)) is =
      let kind = ap (option_map cell_type) is in
      made_from program lawful base w.cells (rest fs xs w) l
      ((h w.cells l fs xs kind (ap type_in (sym same ∙ kind)) (cell_found program lawful w.cells w.cells c (record_cell fs xs) e is)).at w e (longer_refl w.cells))
  record_found w c t rest e l same h _ is = tt

  pub fitting_record : (o : Object) (rest : ℕ → Fields → List Object → Action) → IsTyped program lawful base o →
      ((cells : List Cell) → Longer base cells → (c : ℕ) (fs : Fields) (xs : List Object) → kind_at cells c ≡ Some (record_of fs) → own_type o ≡ record_of fs → CellFits program lawful cells (record_cell fs xs) → Fitting program lawful cells (rest c fs xs)) →
      Fitting program lawful base (with_record o rest)
  unfolding with_record with_cell
  fitting_record (reference t c) rest typed h = record {
    at = λ w e l. record_found w c t (rest c) e l (l.at c t typed) (λ cells longer fs xs. h cells longer c fs xs) (slice_get w.cells c) refl;
  }
  fitting_record _ rest typed h = fitting_no_case

  variant_found : (w : World) (c : ℕ) (t : CluType) (rest : Fields → List ℕ → Object → Action) → EachFits program lawful w.cells w.cells → Longer base w.cells → kind_at w.cells c ≡ Some t →
      ((cells : List Cell) → Longer base cells → (fs : Fields) (tag : List ℕ) (x : Object) → kind_at cells c ≡ Some (variant_of fs) → t ≡ variant_of fs → CellFits program lawful cells (variant_cell fs tag x) → Fitting program lawful cells (rest fs tag x)) →
      (found : Option Cell) → slice_get w.cells c ≡ found → Makes program lawful base (as_variant found rest w)
  unfolding as_variant no_case
  variant_found w c t rest e l same h (Some (variant_cell fs tag x)) is =
      let kind = ap (option_map cell_type) is in
      made_from program lawful base w.cells (rest fs tag x w) l
      ((h w.cells l fs tag x kind (ap type_in (sym same ∙ kind)) (cell_found program lawful w.cells w.cells c (variant_cell fs tag x) e is)).at w e (longer_refl w.cells))
  variant_found w c t rest e l same h _ is = tt

  pub fitting_variant : (o : Object) (rest : ℕ → Fields → List ℕ → Object → Action) → IsTyped program lawful base o →
      ((cells : List Cell) → Longer base cells → (c : ℕ) (fs : Fields) (tag : List ℕ) (x : Object) → kind_at cells c ≡ Some (variant_of fs) → own_type o ≡ variant_of fs → CellFits program lawful cells (variant_cell fs tag x) → Fitting program lawful cells (rest c fs tag x)) →
      Fitting program lawful base (with_variant o rest)
  unfolding with_variant with_cell
  fitting_variant (reference t c) rest typed h = record {
    at = λ w e l. variant_found w c t (rest c) e l (l.at c t typed) (λ cells longer fs tag x. h cells longer c fs tag x) (slice_get w.cells c) refl;
  }
  fitting_variant _ rest typed h = fitting_no_case

  -- ---- objects as operations make them

  same_room : (n : ℕ) → n ≤ n
  same_room n = omega arith

  pub fitting_new_array : (t : CluType) (low : ℤ) (xs : List Object) → Each program lawful base t xs → Fitting program lawful base (new_array t low xs)
  fitting_new_array t low xs h = fitting_or_fails _ _ _ (λ bounds. fitting_counts _ _ (fitting_takes _ _
      (fitting_makes (array_cell (fresh_array t low xs)) (each_typed program lawful base t xs h, each_fit program lawful base t xs h, bounds, same_room (length xs)))))

  pub fitting_new_sequence : (t : CluType) (xs : List Object) → Each program lawful base t xs → Fitting program lawful base (new_sequence t xs)
  fitting_new_sequence t xs h = fitting_counts _ _ (fitting_takes _ _ (fitting_gives (sequence_object t (inside xs) ∷ [])
      ((inside_typed program lawful base xs (each_typed program lawful base t xs h), subst (λ ys. all_fit (own_types ys) (same_for_each t ys) ≡ true) (sym (listed_inside xs)) (each_fit program lawful base t xs h)), tt)))

  pub fitting_new_struct : (fs : Fields) (xs : List Object) → AllTyped program lawful base xs → all_fit (own_types xs) (parts_of fs) ≡ true → Fitting program lawful base (new_struct fs xs)
  fitting_new_struct fs xs h fit = fitting_counts _ _ (fitting_takes _ _ (fitting_gives (struct_object fs (inside xs) ∷ [])
      ((inside_typed program lawful base xs h, subst (λ ys. all_fit (own_types ys) (parts_of fs) ≡ true) (sym (listed_inside xs)) fit), tt)))

  pub fitting_new_record : (fs : Fields) (xs : List Object) → AllTyped program lawful base xs → all_fit (own_types xs) (parts_of fs) ≡ true → Fitting program lawful base (new_record fs xs)
  fitting_new_record fs xs h fit = fitting_counts _ _ (fitting_takes _ _ (fitting_makes (record_cell fs xs) (h, fit)))

  pub fitting_new_oneof : (fs : Fields) (tag : List ℕ) (x : Object) → IsTyped program lawful base x → fits_in (type_of_selector fs tag) x ≡ true → Fitting program lawful base (new_oneof fs tag x)
  fitting_new_oneof fs tag x h fit = fitting_takes _ _ (fitting_gives (oneof_object fs tag x ∷ []) ((h, fit), tt))

  pub fitting_new_variant : (fs : Fields) (tag : List ℕ) (x : Object) → IsTyped program lawful base x → fits_in (type_of_selector fs tag) x ≡ true → Fitting program lawful base (new_variant fs tag x)
  fitting_new_variant fs tag x h fit = fitting_takes _ _ (fitting_makes (variant_cell fs tag x) (h, fit))

pub ruleset fitting = (fitting_gives, fitting_signals, fitting_no_case, fitting_signals_if, fitting_or_signals, fitting_either, fitting_or_fails, fitting_needed, fitting_counts, fitting_takes, fitting_leaves, fitting_reads, fitting_writes, fitting_none, fitting_one, fitting_two, fitting_three, fitting_bool, fitting_int, fitting_char, fitting_string, fitting_stream, fitting_routine, fitting_cell, fitting_sequence, fitting_struct, fitting_oneof, fitting_array, fitting_record, fitting_variant)
