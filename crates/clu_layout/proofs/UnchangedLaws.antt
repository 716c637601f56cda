-- An operation that signals changes nothing and takes no words: what the parts of operations say of this.
use Rattle.std.proofs.Common.{◌≡◌, refl}
use Rattle.std.specs.Prelude.{ℕ, ℤ, Bool, true, false, List, [], ◌∷◌, Option, Some, None, slice_get}
use Rattle.clu_types.specs.CluType.{Fields}
use Rattle.clu_builtin.specs.declared.names.Signal.{Signal}
use Rattle.clu_layout.specs.Objects.{Stream, input_stream, output_stream, Routine, Object, bool_object, int_object, char_object, string_object, stream_object, sequence_object, struct_object, oneof_object, routine_object, reference, listed, Array, Cell, array_cell, record_cell, variant_cell}
use Rattle.clu_layout.specs.StreamOperations.{reads, leaves, writes}
use Rattle.clu_layout.specs.Actions.{World, Outcome, returned, signalled, wrong, Action, gives_all, signals_with, no_case, signals_if, or_signals, either, or_fails, needed, counts, takes, with_none, with_one, with_two, with_three, with_bool, with_int, with_char, with_string, with_stream, with_routine, with_sequence, with_struct, with_oneof, with_cell, as_array, as_record, as_variant, with_array, with_record, with_variant, makes, changes}

-- ---- actions that never signal

abbrev pub IsNotSignalled : Outcome → Type 0
IsNotSignalled (returned os v) = Unit {0}
IsNotSignalled (signalled name os v) = ⊥
IsNotSignalled wrong = Unit {0}

pub record NeverSignals (action : Action) : Type 0 where
  pub at : (w : World) → IsNotSignalled (action w)

pub no_signal_gives : (os : List Object) → NeverSignals (gives_all os)
unfolding gives_all
no_signal_gives os = record { at = λ w. tt }

pub no_signal_no_case : NeverSignals no_case
unfolding no_case
no_signal_no_case = record { at = λ w. tt }

pub no_signal_counts : (n : ℕ) (rest : Action) → NeverSignals rest → NeverSignals (counts n rest)
unfolding counts
no_signal_counts n rest h = record { at = λ w. h.at _ }

pub no_signal_takes : (n : ℕ) (rest : Action) → NeverSignals rest → NeverSignals (takes n rest)
unfolding takes
no_signal_takes n rest h = record { at = λ w. h.at _ }

pub no_signal_makes : (cell : Cell) → NeverSignals (makes cell)
unfolding makes
no_signal_makes cell = record { at = λ w. tt }

pub no_signal_changes : (c : ℕ) (cell : Cell) (rest : Action) → NeverSignals rest → NeverSignals (changes c cell rest)
unfolding changes
no_signal_changes c cell rest h = record { at = λ w. h.at _ }

-- ---- actions that change nothing if they signal

-- an exception leaves cells, input, output and words as they were
abbrev pub ChangesNothing : World → Outcome → Type 0
ChangesNothing w (returned os v) = Unit {0}
ChangesNothing w (signalled name os v) = (v.cells ≡ w.cells) × (v.input ≡ w.input) × (v.output ≡ w.output) × (v.words ≡ w.words)
ChangesNothing w wrong = Unit {0}

pub record UnchangedIfSignalled (action : Action) : Type 0 where
  pub at : (w : World) → ChangesNothing w (action w)

pub never_signalled : (w : World) (o : Outcome) → IsNotSignalled o → ChangesNothing w o
never_signalled w (returned os v) h = tt
never_signalled w (signalled name os v) h = absurd h
never_signalled w wrong h = tt

pub unchanged_gives : (os : List Object) → UnchangedIfSignalled (gives_all os)
unfolding gives_all
unchanged_gives os = record { at = λ w. tt }

pub unchanged_signals : (name : List ℕ) (os : List Object) → UnchangedIfSignalled (signals_with name os)
unfolding signals_with
unchanged_signals name os = record { at = λ w. (refl, refl, refl, refl) }

pub unchanged_no_case : UnchangedIfSignalled no_case
unfolding no_case
unchanged_no_case = record { at = λ w. tt }

pub unchanged_signals_if : (s : Signal) (b : Bool) (rest : Action) → UnchangedIfSignalled rest → UnchangedIfSignalled (signals_if s b rest)
unfolding signals_if
unchanged_signals_if s true rest h = unchanged_signals _ _
unchanged_signals_if s false rest h = h

pub unchanged_or_signals : {A : Type 0} (s : Signal) (found : Option A) (rest : A → Action) → ((x : A) → UnchangedIfSignalled (rest x)) → UnchangedIfSignalled (or_signals s found rest)
unfolding or_signals
unchanged_or_signals s None rest h = unchanged_signals _ _
unchanged_or_signals s (Some x) rest h = h x

pub unchanged_either : (b : Bool) (first second : Action) → UnchangedIfSignalled first → UnchangedIfSignalled second → UnchangedIfSignalled (either b first second)
unfolding either
unchanged_either true first second f g = f
unchanged_either false first second f g = g

pub unchanged_or_fails : (text : List ℕ) (b : Bool) (rest : Action) → UnchangedIfSignalled rest → UnchangedIfSignalled (or_fails text b rest)
unfolding or_fails
unchanged_or_fails text true rest h = h
unchanged_or_fails text false rest h = unchanged_signals _ _

pub unchanged_needed : {A : Type 0} (found : Option A) (rest : A → Action) → ((x : A) → UnchangedIfSignalled (rest x)) → UnchangedIfSignalled (needed found rest)
unfolding needed
unchanged_needed None rest h = unchanged_no_case
unchanged_needed (Some x) rest h = h x

pub unchanged_counts : (n : ℕ) (rest : Action) → UnchangedIfSignalled rest → UnchangedIfSignalled (counts n rest)
unfolding counts
unchanged_counts n rest h = record { at = λ w. h.at (record w { work = _ }) }

pub unchanged_takes : (n : ℕ) (rest : Action) → NeverSignals rest → UnchangedIfSignalled (takes n rest)
unfolding takes
unchanged_takes n rest h = record { at = λ w. never_signalled w _ (h.at _) }

pub unchanged_makes : (cell : Cell) → UnchangedIfSignalled (makes cell)
unfolding makes
unchanged_makes cell = record { at = λ w. tt }

pub unchanged_changes : (c : ℕ) (cell : Cell) (rest : Action) → NeverSignals rest → UnchangedIfSignalled (changes c cell rest)
unfolding changes
unchanged_changes c cell rest h = record { at = λ w. never_signalled w _ (h.at _) }

pub unchanged_leaves : (left : List ℕ) (rest : Action) → NeverSignals rest → UnchangedIfSignalled (leaves left rest)
unfolding leaves
unchanged_leaves left rest h = record { at = λ w. never_signalled w _ (h.at _) }

pub unchanged_reads : (s : Stream) (rest : List ℕ → Action) → ((left : List ℕ) → UnchangedIfSignalled (rest left)) → UnchangedIfSignalled (reads s rest)
unfolding reads
unchanged_reads input_stream rest h = record { at = λ w. (h w.input).at w }
unchanged_reads output_stream rest h = record { at = λ w. (unchanged_signals _ _).at w }

pub unchanged_writes : (s : Stream) (bytes : List ℕ) → UnchangedIfSignalled (writes s bytes)
unfolding writes
unchanged_writes input_stream bytes = record { at = λ w. (unchanged_signals _ _).at w }
unchanged_writes output_stream bytes = record { at = λ w. never_signalled w _ ((no_signal_gives _).at _) }

-- ---- what opens arguments

pub unchanged_none : (os : List Object) (rest : Action) → UnchangedIfSignalled rest → UnchangedIfSignalled (with_none os rest)
unfolding with_none
unchanged_none [] rest h = h
unchanged_none (a ∷ os) rest h = unchanged_no_case

pub unchanged_one : (os : List Object) (rest : Object → Action) → ((a : Object) → UnchangedIfSignalled (rest a)) → UnchangedIfSignalled (with_one os rest)
unfolding with_one
unchanged_one (a ∷ []) rest h = h a
unchanged_one _ rest h = unchanged_no_case

pub unchanged_two : (os : List Object) (rest : Object → Object → Action) → ((a b : Object) → UnchangedIfSignalled (rest a b)) → UnchangedIfSignalled (with_two os rest)
unfolding with_two
unchanged_two (a ∷ b ∷ []) rest h = h a b
unchanged_two _ rest h = unchanged_no_case

pub unchanged_three : (os : List Object) (rest : Object → Object → Object → Action) → ((a b c : Object) → UnchangedIfSignalled (rest a b c)) → UnchangedIfSignalled (with_three os rest)
unfolding with_three
unchanged_three (a ∷ b ∷ c ∷ []) rest h = h a b c
unchanged_three _ rest h = unchanged_no_case

pub unchanged_bool : (o : Object) (rest : Bool → Action) → ((x : Bool) → UnchangedIfSignalled (rest x)) → UnchangedIfSignalled (with_bool o rest)
unfolding with_bool
unchanged_bool (bool_object b) rest h = h b
unchanged_bool _ rest h = unchanged_no_case

pub unchanged_int : (o : Object) (rest : ℤ → Action) → ((x : ℤ) → UnchangedIfSignalled (rest x)) → UnchangedIfSignalled (with_int o rest)
unfolding with_int
unchanged_int (int_object n) rest h = h n
unchanged_int _ rest h = unchanged_no_case

pub unchanged_char : (o : Object) (rest : ℕ → Action) → ((x : ℕ) → UnchangedIfSignalled (rest x)) → UnchangedIfSignalled (with_char o rest)
unfolding with_char
unchanged_char (char_object c) rest h = h c
unchanged_char _ rest h = unchanged_no_case

pub unchanged_string : (o : Object) (rest : List ℕ → Action) → ((x : List ℕ) → UnchangedIfSignalled (rest x)) → UnchangedIfSignalled (with_string o rest)
unfolding with_string
unchanged_string (string_object s) rest h = h s
unchanged_string _ rest h = unchanged_no_case

pub unchanged_stream : (o : Object) (rest : Stream → Action) → ((x : Stream) → UnchangedIfSignalled (rest x)) → UnchangedIfSignalled (with_stream o rest)
unfolding with_stream
unchanged_stream (stream_object s) rest h = h s
unchanged_stream _ rest h = unchanged_no_case

pub unchanged_routine : (o : Object) (rest : Routine → Action) → ((r : Routine) → UnchangedIfSignalled (rest r)) → UnchangedIfSignalled (with_routine o rest)
unfolding with_routine
unchanged_routine (routine_object r heading) rest h = h r
unchanged_routine _ rest h = unchanged_no_case

pub unchanged_sequence : (o : Object) (rest : List Object → Action) → ((xs : List Object) → UnchangedIfSignalled (rest xs)) → UnchangedIfSignalled (with_sequence o rest)
unfolding with_sequence
unchanged_sequence (sequence_object t xs) rest h = h (listed xs)
unchanged_sequence _ rest h = unchanged_no_case

pub unchanged_struct : (o : Object) (rest : Fields → List Object → Action) → ((fs : Fields) (xs : List Object) → UnchangedIfSignalled (rest fs xs)) → UnchangedIfSignalled (with_struct o rest)
unfolding with_struct
unchanged_struct (struct_object fs xs) rest h = h fs (listed xs)
unchanged_struct _ rest h = unchanged_no_case

pub unchanged_oneof : (o : Object) (rest : List ℕ → Object → Action) → ((tag : List ℕ) (x : Object) → UnchangedIfSignalled (rest tag x)) → UnchangedIfSignalled (with_oneof o rest)
unfolding with_oneof
unchanged_oneof (oneof_object fs tag x) rest h = h tag x
unchanged_oneof _ rest h = unchanged_no_case

pub unchanged_cell : (o : Object) (rest : ℕ → Action) → ((c : ℕ) → UnchangedIfSignalled (rest c)) → UnchangedIfSignalled (with_cell o rest)
unfolding with_cell
unchanged_cell (reference t c) rest h = h c
unchanged_cell _ rest h = unchanged_no_case

array_found : (w : World) (rest : Array → Action) → ((a : Array) → UnchangedIfSignalled (rest a)) → (found : Option Cell) → ChangesNothing w (as_array found rest w)
unfolding as_array no_case
array_found w rest h (Some (array_cell a)) = (h a).at w
array_found w rest h _ = tt

pub unchanged_array : (o : Object) (rest : ℕ → Array → Action) → ((c : ℕ) (a : Array) → UnchangedIfSignalled (rest c a)) → UnchangedIfSignalled (with_array o rest)
unfolding with_array
unchanged_array o rest h = unchanged_cell o (λ c w. as_array (slice_get w.cells c) (rest c) w)
    (λ c. record { at = λ w. array_found w (rest c) (h c) (slice_get w.cells c) })

record_found : (w : World) (rest : Fields → List Object → Action) → ((fs : Fields) (xs : List Object) → UnchangedIfSignalled (rest fs xs)) → (found : Option Cell) → ChangesNothing w (as_record found rest w)
unfolding as_record no_case
record_found w rest h (Some (record_cell fs xs)) = (h fs xs).at w
record_found w rest h _ = tt

pub unchanged_record : (o : Object) (rest : ℕ → Fields → List Object → Action) → ((c : ℕ) (fs : Fields) (xs : List Object) → UnchangedIfSignalled (rest c fs xs)) → UnchangedIfSignalled (with_record o rest)
unfolding with_record
unchanged_record o rest h = unchanged_cell o (λ c w. as_record (slice_get w.cells c) (rest c) w)
    (λ c. record { at = λ w. record_found w (rest c) (h c) (slice_get w.cells c) })

variant_found : (w : World) (rest : Fields → List ℕ → Object → Action) → ((fs : Fields) (tag : List ℕ) (x : Object) → UnchangedIfSignalled (rest fs tag x)) → (found : Option Cell) → ChangesNothing w (as_variant found rest w)
unfolding as_variant no_case
variant_found w rest h (Some (variant_cell fs tag x)) = (h fs tag x).at w
variant_found w rest h _ = tt

pub unchanged_variant : (o : Object) (rest : ℕ → Fields → List ℕ → Object → Action) → ((c : ℕ) (fs : Fields) (tag : List ℕ) (x : Object) → UnchangedIfSignalled (rest c fs tag x)) → UnchangedIfSignalled (with_variant o rest)
unfolding with_variant
unchanged_variant o rest h = unchanged_cell o (λ c w. as_variant (slice_get w.cells c) (rest c) w)
    (λ c. record { at = λ w. variant_found w (rest c) (h c) (slice_get w.cells c) })

pub ruleset unchanged = (no_signal_gives, no_signal_no_case, no_signal_counts, no_signal_takes, no_signal_makes, no_signal_changes, unchanged_gives, unchanged_signals, unchanged_no_case, unchanged_signals_if, unchanged_or_signals, unchanged_either, unchanged_or_fails, unchanged_needed, unchanged_counts, unchanged_takes, unchanged_makes, unchanged_changes, unchanged_leaves, unchanged_reads, unchanged_writes, unchanged_none, unchanged_one, unchanged_two, unchanged_three, unchanged_bool, unchanged_int, unchanged_char, unchanged_string, unchanged_stream, unchanged_routine, unchanged_sequence, unchanged_struct, unchanged_oneof, unchanged_cell, unchanged_array, unchanged_record, unchanged_variant)
