-- What the parts of operations keep: no cell is taken away, and none changes the type of what it holds.
use Rattle.std.proofs.Common.{◌≡◌, refl, ap, sym, ◌∙◌, subst}
use Rattle.std.specs.Prelude.{ℕ, zero, suc, ℤ, Bool, true, false, List, [], ◌∷◌, ◌++◌, Option, Some, None, slice_get, slice_set}
use Rattle.std.specs.Option.{option_map}
use Rattle.clu_types.specs.CluType.{CluType, array_of, record_of, variant_of, Fields}
use Rattle.clu_builtin.specs.declared.names.Signal.{Signal}
use Rattle.clu_layout.specs.Objects.{Stream, input_stream, output_stream, Routine, Object, bool_object, int_object, char_object, string_object, stream_object, sequence_object, struct_object, oneof_object, routine_object, reference, listed, Array, Cell, array_cell, record_cell, variant_cell, cell_type}
use Rattle.clu_layout.specs.StreamOperations.{reads, leaves, writes}
use Rattle.clu_layout.specs.Actions.{World, Outcome, returned, signalled, wrong, Action, gives_all, signals_with, no_case, signals_if, or_signals, either, or_fails, needed, counts, takes, with_none, with_one, with_two, with_three, with_bool, with_int, with_char, with_string, with_stream, with_routine, with_sequence, with_struct, with_oneof, with_cell, as_array, as_record, as_variant, with_array, with_record, with_variant, makes, changes}

abbrev pub kind_at : List Cell → ℕ → Option CluType
kind_at cells c = option_map cell_type (slice_get cells c)

-- each cell of the first list holds something of the same type in the second
pub record Longer (a b : List Cell) : Type 0 where
  pub at : (c : ℕ) (t : CluType) → kind_at a c ≡ Some t → kind_at b c ≡ Some t

pub longer_refl : (a : List Cell) → Longer a a
longer_refl a = record { at = λ c t h. h }

pub longer_trans : (a b c : List Cell) → Longer a b → Longer b c → Longer a c
longer_trans a b c f g = record { at = λ n t h. g.at n t (f.at n t h) }

kind_added : (cells : List Cell) (cell : Cell) (c : ℕ) (t : CluType) → kind_at cells c ≡ Some t → kind_at (cells ++ cell ∷ []) c ≡ Some t
kind_added [] cell c t h = absurd (none_some h)
  where
    none_some : {A : Type 0} {x : A} → None ≡ Some x → ⊥
    none_some e = subst is_none e tt
      where
        is_none : {A : Type 0} → Option A → Type 0
        is_none None = Unit {0}
        is_none (Some x) = ⊥
kind_added (x ∷ xs) cell zero t h = h
kind_added (x ∷ xs) cell (suc c) t h = kind_added xs cell c t h

kind_set : (cells : List Cell) (cell : Cell) (c n : ℕ) (t : CluType) → kind_at cells c ≡ Some (cell_type cell) → kind_at cells n ≡ Some t →
    kind_at (slice_set cells c cell) n ≡ Some t
kind_set [] cell c n t same h = h
kind_set (x ∷ xs) cell zero zero t same h = sym same ∙ h
kind_set (x ∷ xs) cell zero (suc n) t same h = h
kind_set (x ∷ xs) cell (suc c) zero t same h = h
kind_set (x ∷ xs) cell (suc c) (suc n) t same h = kind_set xs cell c n t same h

pub longer_added : (a : List Cell) (cell : Cell) → Longer a (a ++ cell ∷ [])
longer_added a cell = record { at = λ c t h. kind_added a cell c t h }

longer_set : (a : List Cell) (cell : Cell) (c : ℕ) → kind_at a c ≡ Some (cell_type cell) → Longer a (slice_set a c cell)
longer_set a cell c same = record { at = λ n t h. kind_set a cell c n t same h }

-- ---- what holds of outcomes and actions

abbrev pub KeptIn : List Cell → Outcome → Type 0
KeptIn base (returned os w) = Longer base w.cells
KeptIn base (signalled name os w) = Longer base w.cells
KeptIn base wrong = Unit {0}

kept_in : (a b : List Cell) (o : Outcome) → Longer a b → KeptIn b o → KeptIn a o
kept_in a b (returned os w) l h = longer_trans a b w.cells l h
kept_in a b (signalled name os w) l h = longer_trans a b w.cells l h
kept_in a b wrong l h = tt

-- in a world with at least the cells of `base`, the action leaves these as they are
pub record Keeps (base : List Cell) (action : Action) : Type 0 where
  pub at : (w : World) → Longer base w.cells → KeptIn base (action w)

module _ (base : List Cell) where
  pub keeps_gives : (os : List Object) → Keeps base (gives_all os)
  unfolding gives_all
  keeps_gives os = record { at = λ w l. l }

  pub keeps_signals : (name : List ℕ) (os : List Object) → Keeps base (signals_with name os)
  unfolding signals_with
  keeps_signals name os = record { at = λ w l. l }

  pub keeps_no_case : Keeps base no_case
  unfolding no_case
  keeps_no_case = record { at = λ w l. tt }

  pub keeps_signals_if : (s : Signal) (b : Bool) (rest : Action) → Keeps base rest → Keeps base (signals_if s b rest)
  unfolding signals_if
  keeps_signals_if s true rest h = keeps_signals _ _
  keeps_signals_if s false rest h = h

  pub keeps_or_signals : {A : Type 0} (s : Signal) (found : Option A) (rest : A → Action) → ((x : A) → Keeps base (rest x)) → Keeps base (or_signals s found rest)
  unfolding or_signals
  keeps_or_signals s None rest h = keeps_signals _ _
  keeps_or_signals s (Some x) rest h = h x

  pub keeps_either : (b : Bool) (first second : Action) → Keeps base first → Keeps base second → Keeps base (either b first second)
  unfolding either
  keeps_either true first second f g = f
  keeps_either false first second f g = g

  pub keeps_or_fails : (text : List ℕ) (b : Bool) (rest : Action) → Keeps base rest → Keeps base (or_fails text b rest)
  unfolding or_fails
  keeps_or_fails text true rest h = h
  keeps_or_fails text false rest h = keeps_signals _ _

  pub keeps_needed : {A : Type 0} (found : Option A) (rest : A → Action) → ((x : A) → Keeps base (rest x)) → Keeps base (needed found rest)
  unfolding needed
  keeps_needed None rest h = keeps_no_case
  keeps_needed (Some x) rest h = h x

  pub keeps_counts : (n : ℕ) (rest : Action) → Keeps base rest → Keeps base (counts n rest)
  unfolding counts
  keeps_counts n rest h = record { at = λ w l. h.at _ l }

  pub keeps_takes : (n : ℕ) (rest : Action) → Keeps base rest → Keeps base (takes n rest)
  unfolding takes
  keeps_takes n rest h = record { at = λ w l. h.at _ l }

  pub keeps_none : (os : List Object) (rest : Action) → Keeps base rest → Keeps base (with_none os rest)
  unfolding with_none
  keeps_none [] rest h = h
  keeps_none (a ∷ os) rest h = keeps_no_case

  pub keeps_one : (os : List Object) (rest : Object → Action) → ((a : Object) → Keeps base (rest a)) → Keeps base (with_one os rest)
  unfolding with_one
  keeps_one (a ∷ []) rest h = h a
  keeps_one _ rest h = keeps_no_case

  pub keeps_two : (os : List Object) (rest : Object → Object → Action) → ((a b : Object) → Keeps base (rest a b)) → Keeps base (with_two os rest)
  unfolding with_two
  keeps_two (a ∷ b ∷ []) rest h = h a b
  keeps_two _ rest h = keeps_no_case

  pub keeps_three : (os : List Object) (rest : Object → Object → Object → Action) → ((a b c : Object) → Keeps base (rest a b c)) → Keeps base (with_three os rest)
  unfolding with_three
  keeps_three (a ∷ b ∷ c ∷ []) rest h = h a b c
  keeps_three _ rest h = keeps_no_case

  pub keeps_bool : (o : Object) (rest : Bool → Action) → ((x : Bool) → Keeps base (rest x)) → Keeps base (with_bool o rest)
  unfolding with_bool
  keeps_bool (bool_object b) rest h = h b
  keeps_bool _ rest h = keeps_no_case

  pub keeps_int : (o : Object) (rest : ℤ → Action) → ((x : ℤ) → Keeps base (rest x)) → Keeps base (with_int o rest)
  unfolding with_int
  keeps_int (int_object n) rest h = h n
  keeps_int _ rest h = keeps_no_case

  pub keeps_char : (o : Object) (rest : ℕ → Action) → ((x : ℕ) → Keeps base (rest x)) → Keeps base (with_char o rest)
  unfolding with_char
  keeps_char (char_object c) rest h = h c
  keeps_char _ rest h = keeps_no_case

  pub keeps_string : (o : Object) (rest : List ℕ → Action) → ((x : List ℕ) → Keeps base (rest x)) → Keeps base (with_string o rest)
  unfolding with_string
  keeps_string (string_object s) rest h = h s
  keeps_string _ rest h = keeps_no_case

  pub keeps_stream : (o : Object) (rest : Stream → Action) → ((x : Stream) → Keeps base (rest x)) → Keeps base (with_stream o rest)
  unfolding with_stream
  keeps_stream (stream_object s) rest h = h s
  keeps_stream _ rest h = keeps_no_case

  pub keeps_routine : (o : Object) (rest : Routine → Action) → ((r : Routine) → Keeps base (rest r)) → Keeps base (with_routine o rest)
  unfolding with_routine
  keeps_routine (routine_object r heading) rest h = h r
  keeps_routine _ rest h = keeps_no_case

  pub keeps_sequence : (o : Object) (rest : List Object → Action) → ((xs : List Object) → Keeps base (rest xs)) → Keeps base (with_sequence o rest)
  unfolding with_sequence
  keeps_sequence (sequence_object t xs) rest h = h (listed xs)
  keeps_sequence _ rest h = keeps_no_case

  pub keeps_struct : (o : Object) (rest : Fields → List Object → Action) → ((fs : Fields) (xs : List Object) → Keeps base (rest fs xs)) → Keeps base (with_struct o rest)
  unfolding with_struct
  keeps_struct (struct_object fs xs) rest h = h fs (listed xs)
  keeps_struct _ rest h = keeps_no_case

  pub keeps_oneof : (o : Object) (rest : List ℕ → Object → Action) → ((tag : List ℕ) (x : Object) → Keeps base (rest tag x)) → Keeps base (with_oneof o rest)
  unfolding with_oneof
  keeps_oneof (oneof_object fs tag x) rest h = h tag x
  keeps_oneof _ rest h = keeps_no_case

  pub keeps_cell : (o : Object) (rest : ℕ → Action) → ((c : ℕ) → Keeps base (rest c)) → Keeps base (with_cell o rest)
  unfolding with_cell
  keeps_cell (reference t c) rest h = h c
  keeps_cell _ rest h = keeps_no_case

  pub keeps_reads : (s : Stream) (rest : List ℕ → Action) → ((left : List ℕ) → Keeps base (rest left)) → Keeps base (reads s rest)
  unfolding reads
  keeps_reads input_stream rest h = record { at = λ w l. (h w.input).at w l }
  keeps_reads output_stream rest h = record { at = λ w l. (keeps_signals _ _).at w l }

  pub keeps_leaves : (left : List ℕ) (rest : Action) → Keeps base rest → Keeps base (leaves left rest)
  unfolding leaves
  keeps_leaves left rest h = record { at = λ w l. h.at _ l }

  pub keeps_writes : (s : Stream) (bytes : List ℕ) → Keeps base (writes s bytes)
  unfolding writes
  keeps_writes input_stream bytes = record { at = λ w l. (keeps_signals _ _).at w l }
  keeps_writes output_stream bytes = record { at = λ w l. (keeps_gives _).at _ l }

  pub keeps_makes : (cell : Cell) → Keeps base (makes cell)
  unfolding makes
  keeps_makes cell = record { at = λ w l. longer_trans base w.cells (w.cells ++ cell ∷ []) l (longer_added w.cells cell) }

  pub keeps_changes : (c : ℕ) (cell : Cell) (rest : Action) → kind_at base c ≡ Some (cell_type cell) → Keeps base rest → Keeps base (changes c cell rest)
  unfolding changes
  keeps_changes c cell rest same h = record {
    at = λ w l.
        h.at (record w { cells = slice_set w.cells c cell }) (longer_trans base w.cells (slice_set w.cells c cell) l
        (longer_set w.cells cell c (l.at c (cell_type cell) same)));
  }

  array_found : (w : World) (c : ℕ) (rest : Array → Action) → Longer base w.cells →
      ((cells : List Cell) (a : Array) → kind_at cells c ≡ Some (array_of a.element) → Keeps cells (rest a)) →
      (found : Option Cell) → slice_get w.cells c ≡ found → KeptIn base (as_array found rest w)
  unfolding as_array no_case
  array_found w c rest l h (Some (array_cell a)) e =
      kept_in base w.cells (rest a w) l ((h w.cells a (ap (option_map cell_type) e)).at w (longer_refl w.cells))
  array_found w c rest l h _ e = tt

  pub keeps_array : (o : Object) (rest : ℕ → Array → Action) →
      ((cells : List Cell) (c : ℕ) (a : Array) → kind_at cells c ≡ Some (array_of a.element) → Keeps cells (rest c a)) → Keeps base (with_array o rest)
  unfolding with_array
  keeps_array o rest h = keeps_cell o (λ c w. as_array (slice_get w.cells c) (rest c) w)
      (λ c. record { at = λ w l. array_found w c (rest c) l (λ cells. h cells c) (slice_get w.cells c) refl })

  record_found : (w : World) (c : ℕ) (rest : Fields → List Object → Action) → Longer base w.cells →
      ((cells : List Cell) (fs : Fields) (xs : List Object) → kind_at cells c ≡ Some (record_of fs) → Keeps cells (rest fs xs)) →
      (found : Option Cell) → slice_get w.cells c ≡ found → KeptIn base (as_record found rest w)
  unfolding as_record no_case
  record_found w c rest l h (Some (record_cell fs xs)) e =
      kept_in base w.cells (rest fs xs w) l ((h w.cells fs xs (ap (option_map cell_type) e)).at w (longer_refl w.cells))
  record_found w c rest l h _ e = tt

  pub keeps_record : (o : Object) (rest : ℕ → Fields → List Object → Action) →
      ((cells : List Cell) (c : ℕ) (fs : Fields) (xs : List Object) → kind_at cells c ≡ Some (record_of fs) → Keeps cells (rest c fs xs)) → Keeps base (with_record o rest)
  unfolding with_record
  keeps_record o rest h = keeps_cell o (λ c w. as_record (slice_get w.cells c) (rest c) w)
      (λ c. record { at = λ w l. record_found w c (rest c) l (λ cells. h cells c) (slice_get w.cells c) refl })

  variant_found : (w : World) (c : ℕ) (rest : Fields → List ℕ → Object → Action) → Longer base w.cells →
      ((cells : List Cell) (fs : Fields) (tag : List ℕ) (x : Object) → kind_at cells c ≡ Some (variant_of fs) → Keeps cells (rest fs tag x)) →
      (found : Option Cell) → slice_get w.cells c ≡ found → KeptIn base (as_variant found rest w)
  unfolding as_variant no_case
  variant_found w c rest l h (Some (variant_cell fs tag x)) e =
      kept_in base w.cells (rest fs tag x w) l ((h w.cells fs tag x (ap (option_map cell_type) e)).at w (longer_refl w.cells))
  variant_found w c rest l h _ e = tt

  pub keeps_variant : (o : Object) (rest : ℕ → Fields → List ℕ → Object → Action) →
      ((cells : List Cell) (c : ℕ) (fs : Fields) (tag : List ℕ) (x : Object) → kind_at cells c ≡ Some (variant_of fs) → Keeps cells (rest c fs tag x)) → Keeps base (with_variant o rest)
  unfolding with_variant
  keeps_variant o rest h = keeps_cell o (λ c w. as_variant (slice_get w.cells c) (rest c) w)
      (λ c. record { at = λ w l. variant_found w c (rest c) l (λ cells. h cells c) (slice_get w.cells c) refl })

pub ruleset keeps = (keeps_gives, keeps_signals, keeps_no_case, keeps_signals_if, keeps_or_signals, keeps_either, keeps_or_fails, keeps_needed, keeps_counts, keeps_takes, keeps_none, keeps_one, keeps_two, keeps_three, keeps_bool, keeps_int, keeps_char, keeps_string, keeps_stream, keeps_routine, keeps_sequence, keeps_struct, keeps_oneof, keeps_cell, keeps_reads, keeps_leaves, keeps_writes, keeps_makes, keeps_changes, keeps_array, keeps_record, keeps_variant)
