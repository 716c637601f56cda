-- What an operation does, and the small functions from which each is put together: what it gives and signals, its costs,
-- what opens its arguments, and what makes and changes objects.
use Rattle.std.specs.Prelude.{ℕ, ◌+◌, ℤ, pos, ◌-ℤ◌, Bool, true, false, not, ◌&&◌, List, [], ◌∷◌, ◌++◌, length, Option, None, Some, slice_get, slice_set, codes}
use Rattle.clu_types.specs.CluType.{CluType, Fields}
use Rattle.clu_builtin.specs.declared.names.Signal.{Signal}
use Rattle.clu_builtin.specs.declared.names.Signal.TheVariants as signal
use Rattle.clu_builtin.specs.Names.{signal_name}
use Rattle.clu_layout.specs.declared.store.Shape.TheVariants as shape
use Rattle.clu_layout.specs.Cost.{cost}
use Rattle.clu_layout.specs.Objects.{Stream, Routine, Object, bool_object, int_object, char_object, string_object, stream_object, sequence_object, struct_object, oneof_object, routine_object, reference, listed, inside, Array, Cell, array_cell, record_cell, variant_cell, cell_type}
use Rattle.clu_layout.specs.Places.{is_int, high_of}

-- what operations see and change: the mutable objects by number of their cell, the bytes of the input that are left, the
-- bytes that were written to the output, the words of store that were taken, and the units of work
pub record World : Type 0 where
  pub cells : List Cell
  pub input : List ℕ
  pub output : List ℕ
  pub words : ℕ
  pub work : ℕ

-- what comes of it: objects, an exception with its objects, or an operation for which no case applies
pub data Outcome : Type 0 where
  returned : List Object → World → Outcome
  signalled : List ℕ → List Object → World → Outcome
  wrong : Outcome

-- what is done in a world, with what comes of it
abbrev pub Action : Type 0
Action = World → Outcome

-- a primitive operation, for its arguments
abbrev pub Primitive : Type 0
Primitive = List Object → Action

-- ---- what is given and signalled

unfoldable pub gives_all : List Object → Action
gives_all os w = returned os w

abbrev pub gives : Object → Action
gives o = gives_all (o ∷ [])

abbrev pub gives_nothing : Action
gives_nothing = gives_all []

abbrev pub gives_bool : Bool → Action
gives_bool b = gives (bool_object b)

abbrev pub gives_int : ℤ → Action
gives_int n = gives (int_object n)

abbrev pub gives_size : {A : Type 0} → List A → Action
gives_size xs = gives_int (pos (length xs))

unfoldable pub signals_with : List ℕ → List Object → Action
signals_with name os w = signalled name os w

abbrev pub signals : Signal → Action
signals s = signals_with (signal_name s) []

abbrev pub fails : List ℕ → Action
fails text = signals_with (codes "failure") (string_object text ∷ [])

-- no case applies
unfoldable pub no_case : Action
no_case w = wrong

-- the exception if the test holds, else the rest
unfoldable pub signals_if : Signal → Bool → Action → Action
signals_if s true rest = signals s
signals_if s false rest = rest

-- the rest with what is there, else the exception
unfoldable pub or_signals : {A : Type 0} → Signal → Option A → (A → Action) → Action
or_signals s None rest = signals s
or_signals s (Some x) rest = rest x

-- an int, or overflow if the number is none
abbrev pub gives_int_or_overflow : ℤ → Action
gives_int_or_overflow n = signals_if signal.Overflow (not (is_int n)) (gives_int n)

-- the rest if the test holds, else a failure with this text
unfoldable pub or_fails : List ℕ → Bool → Action → Action
or_fails text true rest = rest
or_fails text false rest = fails text

-- the first if the test holds, else the second
unfoldable pub either : Bool → Action → Action → Action
either true first second = first
either false first second = second

-- what must hold, and what must be there, for a case to apply
unfoldable pub need : Bool → Action → Action
need true rest = rest
need false rest = no_case

unfoldable pub needed : {A : Type 0} → Option A → (A → Action) → Action
needed None rest = no_case
needed (Some x) rest = rest x

-- one action, and then another with the objects that it gives
unfoldable pub continued : (List Object → Action) → Outcome → Outcome
continued rest (returned os w) = rest os w
continued rest (signalled name os w) = signalled name os w
continued rest wrong = wrong

unfoldable pub and_then : Action → (List Object → Action) → Action
and_then first rest w = continued rest (first w)

-- ---- costs

-- units of work besides
unfoldable pub counts : ℕ → Action → Action
counts n rest w = rest (record w { work = w.work + n })

-- words of store, each of which is also a unit of work
unfoldable pub takes : ℕ → Action → Action
takes n rest w = rest (record w { words = w.words + n; work = w.work + n })

-- ---- the arguments

unfoldable pub with_none : List Object → Action → Action
with_none [] rest = rest
with_none _ rest = no_case

unfoldable pub with_one : List Object → (Object → Action) → Action
with_one (a ∷ []) rest = rest a
with_one _ rest = no_case

unfoldable pub with_two : List Object → (Object → Object → Action) → Action
with_two (a ∷ b ∷ []) rest = rest a b
with_two _ rest = no_case

unfoldable pub with_three : List Object → (Object → Object → Object → Action) → Action
with_three (a ∷ b ∷ c ∷ []) rest = rest a b c
with_three _ rest = no_case

-- ---- what is in an argument

unfoldable pub with_bool : Object → (Bool → Action) → Action
with_bool (bool_object b) rest = rest b
with_bool _ rest = no_case

unfoldable pub with_int : Object → (ℤ → Action) → Action
with_int (int_object n) rest = rest n
with_int _ rest = no_case

unfoldable pub with_char : Object → (ℕ → Action) → Action
with_char (char_object c) rest = rest c
with_char _ rest = no_case

unfoldable pub with_string : Object → (List ℕ → Action) → Action
with_string (string_object bytes) rest = rest bytes
with_string _ rest = no_case

unfoldable pub with_stream : Object → (Stream → Action) → Action
with_stream (stream_object s) rest = rest s
with_stream _ rest = no_case

unfoldable pub with_routine : Object → (Routine → Action) → Action
with_routine (routine_object r heading) rest = rest r
with_routine _ rest = no_case

unfoldable pub with_sequence : Object → (List Object → Action) → Action
with_sequence (sequence_object t xs) rest = rest (listed xs)
with_sequence _ rest = no_case

unfoldable pub with_struct : Object → (Fields → List Object → Action) → Action
with_struct (struct_object fs xs) rest = rest fs (listed xs)
with_struct _ rest = no_case

unfoldable pub with_oneof : Object → (List ℕ → Object → Action) → Action
with_oneof (oneof_object fs tag x) rest = rest tag x
with_oneof _ rest = no_case

-- the number of a mutable object's cell
unfoldable pub with_cell : Object → (ℕ → Action) → Action
with_cell (reference t c) rest = rest c
with_cell _ rest = no_case

-- the mutable object itself
unfoldable pub as_array : Option Cell → (Array → Action) → Action
as_array (Some (array_cell a)) rest = rest a
as_array _ rest = no_case

unfoldable pub as_record : Option Cell → (Fields → List Object → Action) → Action
as_record (Some (record_cell fs xs)) rest = rest fs xs
as_record _ rest = no_case

unfoldable pub as_variant : Option Cell → (Fields → List ℕ → Object → Action) → Action
as_variant (Some (variant_cell fs tag x)) rest = rest fs tag x
as_variant _ rest = no_case

unfoldable pub with_array : Object → (ℕ → Array → Action) → Action
with_array o rest = with_cell o (λ c w. as_array (slice_get w.cells c) (rest c) w)

unfoldable pub with_record : Object → (ℕ → Fields → List Object → Action) → Action
with_record o rest = with_cell o (λ c w. as_record (slice_get w.cells c) (rest c) w)

unfoldable pub with_variant : Object → (ℕ → Fields → List ℕ → Object → Action) → Action
with_variant o rest = with_cell o (λ c w. as_variant (slice_get w.cells c) (rest c) w)

-- the char in an object
abbrev pub char_of : Object → Option ℕ
char_of (char_object c) = Some c
char_of _ = None

abbrev pub after_char : Option ℕ → Option (List ℕ) → Option (List ℕ)
after_char (Some c) (Some cs) = Some (c ∷ cs)
after_char _ _ = None

-- the chars in objects, in order, if each of them is one
abbrev pub bytes_of : List Object → Option (List ℕ)
bytes_of [] = Some []
bytes_of (o ∷ os) = after_char (char_of o) (bytes_of os)

-- ---- mutable objects are made and changed

-- a new cell is the last one
unfoldable pub makes : Cell → Action
makes cell w = returned (reference (cell_type cell) (length w.cells) ∷ []) (record w { cells = w.cells ++ cell ∷ [] })

-- the cell of this number holds another mutable object
unfoldable pub changes : ℕ → Cell → Action → Action
changes c cell rest w = rest (record w { cells = slice_set w.cells c cell })

-- low - 1, low and high of an array stay ints
abbrev pub has_int_bounds : Array → Bool
has_int_bounds a = is_int (a.low -ℤ pos 1) && is_int a.low && is_int (high_of a.low a.items)

abbrev pub with_int_bounds : Array → Action → Action
with_int_bounds a rest = or_fails (codes "bounds out of range") (has_int_bounds a) rest

abbrev pub changes_array : ℕ → Array → Action → Action
changes_array c a rest = with_int_bounds a (changes c (array_cell a) rest)

-- ---- objects as constructors make them, with their cost

abbrev pub fresh_array : CluType → ℤ → List Object → Array
fresh_array t low xs = record { element = t; low = low; items = xs; room = length xs }

abbrev pub makes_array_object : Array → Action
makes_array_object a = takes (cost shape.Array + cost (shape.Cells a.room)) (makes (array_cell a))

abbrev pub makes_array : CluType → ℤ → List Object → Action
makes_array t low xs = with_int_bounds (fresh_array t low xs) (makes_array_object (fresh_array t low xs))

abbrev pub makes_sequence : CluType → List Object → Action
makes_sequence t xs = takes (cost (shape.Sequence (length xs))) (gives (sequence_object t (inside xs)))

abbrev pub makes_struct : Fields → List Object → Action
makes_struct fs xs = takes (cost (shape.Struct (length xs))) (gives (struct_object fs (inside xs)))

abbrev pub makes_record : Fields → List Object → Action
makes_record fs xs = takes (cost (shape.Record (length xs))) (makes (record_cell fs xs))

-- ---- objects as operations make them: each element, component and byte is a unit of work

abbrev pub new_string : List ℕ → Action
new_string bytes = counts (length bytes) (takes (cost (shape.Str (length bytes))) (gives (string_object bytes)))

abbrev pub new_array : CluType → ℤ → List Object → Action
new_array t low xs = with_int_bounds (fresh_array t low xs) (counts (length xs) (makes_array_object (fresh_array t low xs)))

abbrev pub new_sequence : CluType → List Object → Action
new_sequence t xs = counts (length xs) (makes_sequence t xs)

abbrev pub new_struct : Fields → List Object → Action
new_struct fs xs = counts (length xs) (makes_struct fs xs)

abbrev pub new_record : Fields → List Object → Action
new_record fs xs = counts (length xs) (makes_record fs xs)

-- a oneof and a variant have a tag and a value, and neither elements nor components
abbrev pub new_oneof : Fields → List ℕ → Object → Action
new_oneof fs tag x = takes (cost shape.Oneof) (gives (oneof_object fs tag x))

abbrev pub new_variant : Fields → List ℕ → Object → Action
new_variant fs tag x = takes (cost shape.Variant) (makes (variant_cell fs tag x))
