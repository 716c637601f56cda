-- Which exceptions an action may signal: what the parts of operations say of this.
use Rattle.std.proofs.Common.{◌≡◌, refl}
use Rattle.std.specs.Prelude.{ℕ, ℤ, Bool, true, false, List, [], ◌∷◌, Option, Some, None, slice_get, codes}
use Rattle.clu_types.specs.CluType.{string_type, CluTypes, no_types, type_and, Fields, Signals, signal_and}
use Rattle.clu_builtin.specs.declared.names.Signal.{Signal}
use Rattle.clu_builtin.specs.declared.names.Signal.TheVariants as signal
use Rattle.clu_builtin.specs.Names.{signal_name}
use Rattle.clu_layout.specs.Objects.{Stream, input_stream, output_stream, Routine, Object, bool_object, int_object, char_object, string_object, stream_object, sequence_object, struct_object, oneof_object, routine_object, reference, listed, own_types, Array, Cell, array_cell, record_cell, variant_cell}
use Rattle.clu_layout.specs.SameType.{has_signal}
use Rattle.clu_layout.specs.StreamOperations.{reads, leaves, writes}
use Rattle.clu_layout.specs.Actions.{World, Outcome, returned, signalled, wrong, Action, gives_all, signals_with, no_case, signals_if, or_signals, either, or_fails, need, needed, continued, and_then, counts, takes, with_none, with_one, with_two, with_three, with_bool, with_int, with_char, with_string, with_stream, with_routine, with_sequence, with_struct, with_oneof, with_cell, as_array, as_record, as_variant, with_array, with_record, with_variant, makes, changes}

-- the exception is listed with the types of these objects, or it is failure with one string
abbrev pub may_signal : Signals → List ℕ → CluTypes → Bool
may_signal ss name types = has_signal name types (signal_and (codes "failure") (type_and string_type no_types) ss)

abbrev pub IsListed : Signals → Outcome → Type 0
IsListed ss (returned os w) = Unit {0}
IsListed ss (signalled name os w) = may_signal ss name (own_types os) ≡ true
IsListed ss wrong = Unit {0}

-- in every world, the action signals at most what is listed
pub record SignalsOnly (ss : Signals) (action : Action) : Type 0 where
  pub at : (w : World) → IsListed ss (action w)

module _ (ss : Signals) where
  pub only_gives : (os : List Object) → SignalsOnly ss (gives_all os)
  unfolding gives_all
  only_gives os = record { at = λ w. tt }

  pub only_signals : (name : List ℕ) (os : List Object) → may_signal ss name (own_types os) ≡ true → SignalsOnly ss (signals_with name os)
  unfolding signals_with
  only_signals name os h = record { at = λ w. h }

  pub only_no_case : SignalsOnly ss no_case
  unfolding no_case
  only_no_case = record { at = λ w. tt }

  pub only_signals_if : (s : Signal) (b : Bool) (rest : Action) → may_signal ss (signal_name s) no_types ≡ true → SignalsOnly ss rest → SignalsOnly ss (signals_if s b rest)
  unfolding signals_if
  only_signals_if s true rest h f = only_signals (signal_name s) [] h
  only_signals_if s false rest h f = f

  pub only_or_signals : {A : Type 0} (s : Signal) (found : Option A) (rest : A → Action) → may_signal ss (signal_name s) no_types ≡ true →
      ((x : A) → SignalsOnly ss (rest x)) → SignalsOnly ss (or_signals s found rest)
  unfolding or_signals
  only_or_signals s None rest h f = only_signals (signal_name s) [] h
  only_or_signals s (Some x) rest h f = f x

  pub only_either : (b : Bool) (first second : Action) → SignalsOnly ss first → SignalsOnly ss second → SignalsOnly ss (either b first second)
  unfolding either
  only_either true first second f g = f
  only_either false first second f g = g

  pub only_or_fails : (text : List ℕ) (b : Bool) (rest : Action) → SignalsOnly ss rest → SignalsOnly ss (or_fails text b rest)
  unfolding or_fails
  only_or_fails text true rest h = h
  only_or_fails text false rest h = only_signals (codes "failure") (string_object text ∷ []) refl

  pub only_need : (b : Bool) (rest : Action) → SignalsOnly ss rest → SignalsOnly ss (need b rest)
  unfolding need
  only_need true rest h = h
  only_need false rest h = only_no_case

  pub only_needed : {A : Type 0} (found : Option A) (rest : A → Action) → ((x : A) → SignalsOnly ss (rest x)) → SignalsOnly ss (needed found rest)
  unfolding needed
  only_needed None rest h = only_no_case
  only_needed (Some x) rest h = h x

  only_continued : (rest : List Object → Action) → ((os : List Object) → SignalsOnly ss (rest os)) → (o : Outcome) → IsListed ss o → IsListed ss (continued rest o)
  unfolding continued
  only_continued rest h (returned os w) l = (h os).at w
  only_continued rest h (signalled name os w) l = l
  only_continued rest h wrong l = tt

  pub only_and_then : (first : Action) (rest : List Object → Action) → SignalsOnly ss first → ((os : List Object) → SignalsOnly ss (rest os)) → SignalsOnly ss (and_then first rest)
  unfolding and_then
  only_and_then first rest f h = record { at = λ w. only_continued rest h (first w) (f.at w) }

  pub only_counts : (n : ℕ) (rest : Action) → SignalsOnly ss rest → SignalsOnly ss (counts n rest)
  unfolding counts
  only_counts n rest h = record { at = λ w. h.at _ }

  pub only_takes : (n : ℕ) (rest : Action) → SignalsOnly ss rest → SignalsOnly ss (takes n rest)
  unfolding takes
  only_takes n rest h = record { at = λ w. h.at _ }

  pub only_makes : (cell : Cell) → SignalsOnly ss (makes cell)
  unfolding makes
  only_makes cell = record { at = λ w. tt }

  pub only_changes : (c : ℕ) (cell : Cell) (rest : Action) → SignalsOnly ss rest → SignalsOnly ss (changes c cell rest)
  unfolding changes
  only_changes c cell rest h = record { at = λ w. h.at _ }

  pub only_leaves : (left : List ℕ) (rest : Action) → SignalsOnly ss rest → SignalsOnly ss (leaves left rest)
  unfolding leaves
  only_leaves left rest h = record { at = λ w. h.at _ }

  -- reading the output and writing the input is not possible
  pub only_reads : (s : Stream) (rest : List ℕ → Action) → may_signal ss (signal_name signal.NotPossible) (type_and string_type no_types) ≡ true →
      ((left : List ℕ) → SignalsOnly ss (rest left)) → SignalsOnly ss (reads s rest)
  unfolding reads
  only_reads input_stream rest h f = record { at = λ w. (f w.input).at w }
  only_reads output_stream rest h f = record { at = λ w. (only_signals (signal_name signal.NotPossible) (string_object (codes "cannot read") ∷ []) h).at w }

  pub only_writes : (s : Stream) (bytes : List ℕ) → may_signal ss (signal_name signal.NotPossible) (type_and string_type no_types) ≡ true → SignalsOnly ss (writes s bytes)
  unfolding writes
  only_writes input_stream bytes h = record { at = λ w. (only_signals (signal_name signal.NotPossible) (string_object (codes "cannot write") ∷ []) h).at w }
  only_writes output_stream bytes h = record { at = λ w. (only_gives _).at _ }

  -- ---- what opens arguments

  pub only_none : (os : List Object) (rest : Action) → SignalsOnly ss rest → SignalsOnly ss (with_none os rest)
  unfolding with_none
  only_none [] rest h = h
  only_none (a ∷ os) rest h = only_no_case

  pub only_one : (os : List Object) (rest : Object → Action) → ((a : Object) → SignalsOnly ss (rest a)) → SignalsOnly ss (with_one os rest)
  unfolding with_one
  only_one (a ∷ []) rest h = h a
  only_one _ rest h = only_no_case

  pub only_two : (os : List Object) (rest : Object → Object → Action) → ((a b : Object) → SignalsOnly ss (rest a b)) → SignalsOnly ss (with_two os rest)
  unfolding with_two
  only_two (a ∷ b ∷ []) rest h = h a b
  only_two _ rest h = only_no_case

  pub only_three : (os : List Object) (rest : Object → Object → Object → Action) → ((a b c : Object) → SignalsOnly ss (rest a b c)) → SignalsOnly ss (with_three os rest)
  unfolding with_three
  only_three (a ∷ b ∷ c ∷ []) rest h = h a b c
  only_three _ rest h = only_no_case

  pub only_bool : (o : Object) (rest : Bool → Action) → ((x : Bool) → SignalsOnly ss (rest x)) → SignalsOnly ss (with_bool o rest)
  unfolding with_bool
  only_bool (bool_object b) rest h = h b
  only_bool _ rest h = only_no_case

  pub only_int : (o : Object) (rest : ℤ → Action) → ((x : ℤ) → SignalsOnly ss (rest x)) → SignalsOnly ss (with_int o rest)
  unfolding with_int
  only_int (int_object n) rest h = h n
  only_int _ rest h = only_no_case

  pub only_char : (o : Object) (rest : ℕ → Action) → ((x : ℕ) → SignalsOnly ss (rest x)) → SignalsOnly ss (with_char o rest)
  unfolding with_char
  only_char (char_object c) rest h = h c
  only_char _ rest h = only_no_case

  pub only_string : (o : Object) (rest : List ℕ → Action) → ((x : List ℕ) → SignalsOnly ss (rest x)) → SignalsOnly ss (with_string o rest)
  unfolding with_string
  only_string (string_object s) rest h = h s
  only_string _ rest h = only_no_case

  pub only_stream : (o : Object) (rest : Stream → Action) → ((x : Stream) → SignalsOnly ss (rest x)) → SignalsOnly ss (with_stream o rest)
  unfolding with_stream
  only_stream (stream_object s) rest h = h s
  only_stream _ rest h = only_no_case

  pub only_routine : (o : Object) (rest : Routine → Action) → ((r : Routine) → SignalsOnly ss (rest r)) → SignalsOnly ss (with_routine o rest)
  unfolding with_routine
  only_routine (routine_object r heading) rest h = h r
  only_routine _ rest h = only_no_case

  pub only_sequence : (o : Object) (rest : List Object → Action) → ((xs : List Object) → SignalsOnly ss (rest xs)) → SignalsOnly ss (with_sequence o rest)
  unfolding with_sequence
  only_sequence (sequence_object t xs) rest h = h (listed xs)
  only_sequence _ rest h = only_no_case

  pub only_struct : (o : Object) (rest : Fields → List Object → Action) → ((fs : Fields) (xs : List Object) → SignalsOnly ss (rest fs xs)) → SignalsOnly ss (with_struct o rest)
  unfolding with_struct
  only_struct (struct_object fs xs) rest h = h fs (listed xs)
  only_struct _ rest h = only_no_case

  pub only_oneof : (o : Object) (rest : List ℕ → Object → Action) → ((tag : List ℕ) (x : Object) → SignalsOnly ss (rest tag x)) → SignalsOnly ss (with_oneof o rest)
  unfolding with_oneof
  only_oneof (oneof_object fs tag x) rest h = h tag x
  only_oneof _ rest h = only_no_case

  pub only_cell : (o : Object) (rest : ℕ → Action) → ((c : ℕ) → SignalsOnly ss (rest c)) → SignalsOnly ss (with_cell o rest)
  unfolding with_cell
  only_cell (reference t c) rest h = h c
  only_cell _ rest h = only_no_case

  array_found : (w : World) (rest : Array → Action) → ((a : Array) → SignalsOnly ss (rest a)) → (found : Option Cell) → IsListed ss (as_array found rest w)
  unfolding as_array no_case
  array_found w rest h (Some (array_cell a)) = (h a).at w
  array_found w rest h _ = tt

  pub only_array : (o : Object) (rest : ℕ → Array → Action) → ((c : ℕ) (a : Array) → SignalsOnly ss (rest c a)) → SignalsOnly ss (with_array o rest)
  unfolding with_array
  only_array o rest h = only_cell o (λ c w. as_array (slice_get w.cells c) (rest c) w)
      (λ c. record { at = λ w. array_found w (rest c) (h c) (slice_get w.cells c) })

  record_found : (w : World) (rest : Fields → List Object → Action) → ((fs : Fields) (xs : List Object) → SignalsOnly ss (rest fs xs)) → (found : Option Cell) → IsListed ss (as_record found rest w)
  unfolding as_record no_case
  record_found w rest h (Some (record_cell fs xs)) = (h fs xs).at w
  record_found w rest h _ = tt

  pub only_record : (o : Object) (rest : ℕ → Fields → List Object → Action) → ((c : ℕ) (fs : Fields) (xs : List Object) → SignalsOnly ss (rest c fs xs)) → SignalsOnly ss (with_record o rest)
  unfolding with_record
  only_record o rest h = only_cell o (λ c w. as_record (slice_get w.cells c) (rest c) w)
      (λ c. record { at = λ w. record_found w (rest c) (h c) (slice_get w.cells c) })

  variant_found : (w : World) (rest : Fields → List ℕ → Object → Action) → ((fs : Fields) (tag : List ℕ) (x : Object) → SignalsOnly ss (rest fs tag x)) → (found : Option Cell) → IsListed ss (as_variant found rest w)
  unfolding as_variant no_case
  variant_found w rest h (Some (variant_cell fs tag x)) = (h fs tag x).at w
  variant_found w rest h _ = tt

  pub only_variant : (o : Object) (rest : ℕ → Fields → List ℕ → Object → Action) → ((c : ℕ) (fs : Fields) (tag : List ℕ) (x : Object) → SignalsOnly ss (rest c fs tag x)) → SignalsOnly ss (with_variant o rest)
  unfolding with_variant
  only_variant o rest h = only_cell o (λ c w. as_variant (slice_get w.cells c) (rest c) w)
      (λ c. record { at = λ w. variant_found w (rest c) (h c) (slice_get w.cells c) })

pub ruleset only = (only_gives, only_signals, only_no_case, only_signals_if, only_or_signals, only_either, only_or_fails, only_need, only_needed, only_counts, only_takes, only_makes, only_changes, only_leaves, only_reads, only_writes, only_none, only_one, only_two, only_three, only_bool, only_int, only_char, only_string, only_stream, only_routine, only_sequence, only_struct, only_oneof, only_cell, only_array, only_record, only_variant)
