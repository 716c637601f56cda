-- Right cells stay right: what the parts of operations say of this.
use Rattle.std.proofs.Common.{◌≡◌, refl, arith}
use Rattle.std.specs.Prelude.{ℕ, zero, suc, ◌≤◌, ℤ, Bool, true, false, List, [], ◌∷◌, ◌++◌, length, Option, Some, None, slice_get, slice_set}
use Rattle.clu_types.specs.CluType.{Fields, no_fields, field_and}
use Rattle.clu_builtin.specs.declared.names.Signal.{Signal}
use Rattle.clu_layout.specs.Objects.{Stream, input_stream, output_stream, Routine, Object, bool_object, int_object, char_object, string_object, stream_object, sequence_object, struct_object, oneof_object, routine_object, reference, listed, Array, Cell, array_cell, record_cell, variant_cell}
use Rattle.clu_layout.specs.StreamOperations.{reads, leaves, writes}
use Rattle.clu_layout.specs.Actions.{World, Outcome, returned, signalled, wrong, Action, gives_all, signals_with, no_case, signals_if, or_signals, either, or_fails, need, needed, continued, and_then, counts, takes, with_none, with_one, with_two, with_three, with_bool, with_int, with_char, with_string, with_stream, with_routine, with_sequence, with_struct, with_oneof, with_cell, as_array, as_record, as_variant, with_array, with_record, with_variant, makes, changes, has_int_bounds}

abbrev pub selector_count : Fields → ℕ
selector_count no_fields = 0
selector_count (field_and s t rest) = suc (selector_count rest)

-- low - 1, low and high of an array are ints, and there is room for its elements; a record has as many components as
-- selectors
abbrev pub IsRight : Cell → Type 0
IsRight (array_cell a) = (has_int_bounds a ≡ true) × (length a.items ≤ a.room)
IsRight (record_cell fs xs) = length xs ≡ selector_count fs
IsRight (variant_cell fs tag o) = Unit {0}

abbrev pub AllRight : List Cell → Type 0
AllRight [] = Unit {0}
AllRight (cell ∷ cells) = IsRight cell × AllRight cells

right_added : (cells : List Cell) (cell : Cell) → AllRight cells → IsRight cell → AllRight (cells ++ cell ∷ [])
right_added [] cell h r = (r, tt)
right_added (x ∷ xs) cell h r = (h.0, right_added xs cell h.1 r)

right_set : (cells : List Cell) (c : ℕ) (cell : Cell) → AllRight cells → IsRight cell → AllRight (slice_set cells c cell)
right_set [] c cell h r = tt
right_set (x ∷ xs) zero cell h r = (r, h.1)
right_set (x ∷ xs) (suc c) cell h r = (h.0, right_set xs c cell h.1 r)

abbrev RightIfThere : Option Cell → Type 0
RightIfThere None = Unit {0}
RightIfThere (Some cell) = IsRight cell

right_found : (cells : List Cell) (c : ℕ) → AllRight cells → RightIfThere (slice_get cells c)
right_found [] c h = tt
right_found (x ∷ xs) zero h = h.0
right_found (x ∷ xs) (suc c) h = right_found xs c h.1

-- ---- what holds of outcomes and actions

abbrev pub RightIn : Outcome → Type 0
RightIn (returned os w) = AllRight w.cells
RightIn (signalled name os w) = AllRight w.cells
RightIn wrong = Unit {0}

-- in a world whose cells are right, the action leaves right cells
pub record StaysRight (action : Action) : Type 0 where
  pub at : (w : World) → AllRight w.cells → RightIn (action w)

pub right_gives : (os : List Object) → StaysRight (gives_all os)
unfolding gives_all
right_gives os = record { at = λ w r. r }

pub right_signals : (name : List ℕ) (os : List Object) → StaysRight (signals_with name os)
unfolding signals_with
right_signals name os = record { at = λ w r. r }

pub right_no_case : StaysRight no_case
unfolding no_case
right_no_case = record { at = λ w r. tt }

pub right_signals_if : (s : Signal) (b : Bool) (rest : Action) → StaysRight rest → StaysRight (signals_if s b rest)
unfolding signals_if
right_signals_if s true rest h = right_signals _ _
right_signals_if s false rest h = h

pub right_or_signals : {A : Type 0} (s : Signal) (found : Option A) (rest : A → Action) → ((x : A) → found ≡ Some x → StaysRight (rest x)) → StaysRight (or_signals s found rest)
unfolding or_signals
right_or_signals s None rest h = right_signals _ _
right_or_signals s (Some x) rest h = h x refl

pub right_either : (b : Bool) (first second : Action) → (b ≡ true → StaysRight first) → (b ≡ false → StaysRight second) → StaysRight (either b first second)
unfolding either
right_either true first second f g = f refl
right_either false first second f g = g refl

pub right_or_fails : (text : List ℕ) (b : Bool) (rest : Action) → (b ≡ true → StaysRight rest) → StaysRight (or_fails text b rest)
unfolding or_fails
right_or_fails text true rest h = h refl
right_or_fails text false rest h = right_signals _ _

pub right_need : (b : Bool) (rest : Action) → (b ≡ true → StaysRight rest) → StaysRight (need b rest)
unfolding need
right_need true rest h = h refl
right_need false rest h = right_no_case

pub right_needed : {A : Type 0} (found : Option A) (rest : A → Action) → ((x : A) → found ≡ Some x → StaysRight (rest x)) → StaysRight (needed found rest)
unfolding needed
right_needed None rest h = right_no_case
right_needed (Some x) rest h = h x refl

right_continued : (rest : List Object → Action) → ((os : List Object) → StaysRight (rest os)) → (o : Outcome) → RightIn o → RightIn (continued rest o)
unfolding continued
right_continued rest h (returned os w) r = (h os).at w r
right_continued rest h (signalled name os w) r = r
right_continued rest h wrong r = tt

pub right_and_then : (first : Action) (rest : List Object → Action) → StaysRight first → ((os : List Object) → StaysRight (rest os)) → StaysRight (and_then first rest)
unfolding and_then
right_and_then first rest f h = record { at = λ w r. right_continued rest h (first w) (f.at w r) }

pub right_counts : (n : ℕ) (rest : Action) → StaysRight rest → StaysRight (counts n rest)
unfolding counts
right_counts n rest h = record { at = λ w r. h.at _ r }

pub right_takes : (n : ℕ) (rest : Action) → StaysRight rest → StaysRight (takes n rest)
unfolding takes
right_takes n rest h = record { at = λ w r. h.at _ r }

pub right_makes : (cell : Cell) → IsRight cell → StaysRight (makes cell)
unfolding makes
right_makes cell h = record { at = λ w r. right_added w.cells cell r h }

pub right_changes : (c : ℕ) (cell : Cell) (rest : Action) → IsRight cell → StaysRight rest → StaysRight (changes c cell rest)
unfolding changes
right_changes c cell rest h f = record { at = λ w r. f.at (record w { cells = slice_set w.cells c cell }) (right_set w.cells c cell r h) }

pub right_leaves : (left : List ℕ) (rest : Action) → StaysRight rest → StaysRight (leaves left rest)
unfolding leaves
right_leaves left rest h = record { at = λ w r. h.at _ r }

pub right_reads : (s : Stream) (rest : List ℕ → Action) → ((left : List ℕ) → StaysRight (rest left)) → StaysRight (reads s rest)
unfolding reads
right_reads input_stream rest h = record { at = λ w r. (h w.input).at w r }
right_reads output_stream rest h = record { at = λ w r. (right_signals _ _).at w r }

pub right_writes : (s : Stream) (bytes : List ℕ) → StaysRight (writes s bytes)
unfolding writes
right_writes input_stream bytes = record { at = λ w r. (right_signals _ _).at w r }
right_writes output_stream bytes = record { at = λ w r. (right_gives _).at _ r }

-- ---- what opens arguments

pub right_none : (os : List Object) (rest : Action) → StaysRight rest → StaysRight (with_none os rest)
unfolding with_none
right_none [] rest h = h
right_none (a ∷ os) rest h = right_no_case

pub right_one : (os : List Object) (rest : Object → Action) → ((a : Object) → StaysRight (rest a)) → StaysRight (with_one os rest)
unfolding with_one
right_one (a ∷ []) rest h = h a
right_one _ rest h = right_no_case

pub right_two : (os : List Object) (rest : Object → Object → Action) → ((a b : Object) → StaysRight (rest a b)) → StaysRight (with_two os rest)
unfolding with_two
right_two (a ∷ b ∷ []) rest h = h a b
right_two _ rest h = right_no_case

pub right_three : (os : List Object) (rest : Object → Object → Object → Action) → ((a b c : Object) → StaysRight (rest a b c)) → StaysRight (with_three os rest)
unfolding with_three
right_three (a ∷ b ∷ c ∷ []) rest h = h a b c
right_three _ rest h = right_no_case

pub right_bool : (o : Object) (rest : Bool → Action) → ((x : Bool) → StaysRight (rest x)) → StaysRight (with_bool o rest)
unfolding with_bool
right_bool (bool_object b) rest h = h b
right_bool _ rest h = right_no_case

pub right_int : (o : Object) (rest : ℤ → Action) → ((x : ℤ) → StaysRight (rest x)) → StaysRight (with_int o rest)
unfolding with_int
right_int (int_object n) rest h = h n
right_int _ rest h = right_no_case

pub right_char : (o : Object) (rest : ℕ → Action) → ((x : ℕ) → StaysRight (rest x)) → StaysRight (with_char o rest)
unfolding with_char
right_char (char_object c) rest h = h c
right_char _ rest h = right_no_case

pub right_string : (o : Object) (rest : List ℕ → Action) → ((x : List ℕ) → StaysRight (rest x)) → StaysRight (with_string o rest)
unfolding with_string
right_string (string_object s) rest h = h s
right_string _ rest h = right_no_case

pub right_stream : (o : Object) (rest : Stream → Action) → ((x : Stream) → StaysRight (rest x)) → StaysRight (with_stream o rest)
unfolding with_stream
right_stream (stream_object s) rest h = h s
right_stream _ rest h = right_no_case

pub right_routine : (o : Object) (rest : Routine → Action) → ((r : Routine) → StaysRight (rest r)) → StaysRight (with_routine o rest)
unfolding with_routine
right_routine (routine_object r heading) rest h = h r
right_routine _ rest h = right_no_case

pub right_sequence : (o : Object) (rest : List Object → Action) → ((xs : List Object) → StaysRight (rest xs)) → StaysRight (with_sequence o rest)
unfolding with_sequence
right_sequence (sequence_object t xs) rest h = h (listed xs)
right_sequence _ rest h = right_no_case

pub right_struct : (o : Object) (rest : Fields → List Object → Action) → ((fs : Fields) (xs : List Object) → StaysRight (rest fs xs)) → StaysRight (with_struct o rest)
unfolding with_struct
right_struct (struct_object fs xs) rest h = h fs (listed xs)
right_struct _ rest h = right_no_case

pub right_oneof : (o : Object) (rest : List ℕ → Object → Action) → ((tag : List ℕ) (x : Object) → StaysRight (rest tag x)) → StaysRight (with_oneof o rest)
unfolding with_oneof
right_oneof (oneof_object fs tag x) rest h = h tag x
right_oneof _ rest h = right_no_case

pub right_cell : (o : Object) (rest : ℕ → Action) → ((c : ℕ) → StaysRight (rest c)) → StaysRight (with_cell o rest)
unfolding with_cell
right_cell (reference t c) rest h = h c
right_cell _ rest h = right_no_case

array_right : (w : World) (rest : Array → Action) → AllRight w.cells → ((a : Array) → has_int_bounds a ≡ true → length a.items ≤ a.room → StaysRight (rest a)) →
    (found : Option Cell) → RightIfThere found → RightIn (as_array found rest w)
unfolding as_array no_case
array_right w rest r h (Some (array_cell a)) f = (h a f.0 f.1).at w r
array_right w rest r h _ f = tt

pub right_array : (o : Object) (rest : ℕ → Array → Action) → ((c : ℕ) (a : Array) → has_int_bounds a ≡ true → length a.items ≤ a.room → StaysRight (rest c a)) →
    StaysRight (with_array o rest)
unfolding with_array
right_array o rest h = right_cell o (λ c w. as_array (slice_get w.cells c) (rest c) w)
    (λ c. record { at = λ w r. array_right w (rest c) r (h c) (slice_get w.cells c) (right_found w.cells c r) })

record_right : (w : World) (rest : Fields → List Object → Action) → AllRight w.cells → ((fs : Fields) (xs : List Object) → length xs ≡ selector_count fs → StaysRight (rest fs xs)) →
    (found : Option Cell) → RightIfThere found → RightIn (as_record found rest w)
unfolding as_record no_case
record_right w rest r h (Some (record_cell fs xs)) f = (h fs xs f).at w r
record_right w rest r h _ f = tt

pub right_record : (o : Object) (rest : ℕ → Fields → List Object → Action) → ((c : ℕ) (fs : Fields) (xs : List Object) → length xs ≡ selector_count fs → StaysRight (rest c fs xs)) →
    StaysRight (with_record o rest)
unfolding with_record
right_record o rest h = right_cell o (λ c w. as_record (slice_get w.cells c) (rest c) w)
    (λ c. record { at = λ w r. record_right w (rest c) r (h c) (slice_get w.cells c) (right_found w.cells c r) })

variant_right : (w : World) (rest : Fields → List ℕ → Object → Action) → AllRight w.cells → ((fs : Fields) (tag : List ℕ) (x : Object) → StaysRight (rest fs tag x)) →
    (found : Option Cell) → RightIn (as_variant found rest w)
unfolding as_variant no_case
variant_right w rest r h (Some (variant_cell fs tag x)) = (h fs tag x).at w r
variant_right w rest r h _ = tt

pub right_variant : (o : Object) (rest : ℕ → Fields → List ℕ → Object → Action) → ((c : ℕ) (fs : Fields) (tag : List ℕ) (x : Object) → StaysRight (rest c fs tag x)) →
    StaysRight (with_variant o rest)
unfolding with_variant
right_variant o rest h = right_cell o (λ c w. as_variant (slice_get w.cells c) (rest c) w)
    (λ c. record { at = λ w r. variant_right w (rest c) r (h c) (slice_get w.cells c) })

-- a new array has room for just its elements
pub right_room : (n : ℕ) → n ≤ n
right_room n = omega arith

pub ruleset right = (right_gives, right_signals, right_no_case, right_signals_if, right_or_signals, right_either, right_or_fails, right_need, right_needed, right_counts, right_takes, right_makes, right_changes, right_leaves, right_reads, right_writes, right_none, right_one, right_two, right_three, right_bool, right_int, right_char, right_string, right_stream, right_routine, right_sequence, right_struct, right_oneof, right_cell, right_array, right_record, right_variant, right_room)
