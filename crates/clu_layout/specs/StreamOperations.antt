-- The operations of stream. w(n) is n / 8 rounded up, the words that hold the n bytes of the string.
use Rattle.std.specs.Prelude.{ℕ, Bool, true, false, ◌==◌, List, [], ◌∷◌, ◌++◌, length, Option, None, Some, if◌then◌else◌, codes}
use Rattle.clu_builtin.specs.declared.names.Signal.TheVariants as signal
use Rattle.clu_builtin.specs.Names.{signal_name}
use Rattle.clu_layout.specs.Objects.{Stream, input_stream, output_stream, Object, char_object, string_object, stream_object}
use Rattle.clu_layout.specs.Places.{is_empty}
use Rattle.clu_layout.specs.Actions.{Action, Primitive, gives, gives_nothing, gives_bool, signals_with, or_signals, counts, with_none, with_one, with_two, with_char, with_string, with_stream, new_string}
use Rattle.clu_layout.specs.PlainOperations.{Primitives}

abbrev pub not_possible : List ℕ → Action
not_possible text = signals_with (signal_name signal.NotPossible) (string_object text ∷ [])

-- the bytes of the input that are left
unfoldable pub reads : Stream → (List ℕ → Action) → Action
reads input_stream rest w = rest w.input w
reads output_stream rest w = not_possible (codes "cannot read") w

-- these bytes of the input are left
unfoldable pub leaves : List ℕ → Action → Action
leaves bytes rest w = rest (record w { input = bytes })

-- the bytes are added to the output
unfoldable pub writes : Stream → List ℕ → Action
writes input_stream bytes w = not_possible (codes "cannot write") w
writes output_stream bytes w = gives_nothing (record w { output = w.output ++ bytes })

abbrev pub reading : List Object → (List ℕ → Action) → Action
reading os rest = with_one os (λ a. with_stream a (λ s. reads s rest))

-- the next byte, and what is left after it
abbrev pub next_byte : List ℕ → Option (ℕ × List ℕ)
next_byte [] = None
next_byte (c ∷ rest) = Some (c, rest)

-- the bytes up to byte 10 or the end, and what is left after that byte
abbrev pub line_of : List ℕ → List ℕ
line_of [] = []
line_of (c ∷ rest) = if c == 10 then [] else c ∷ line_of rest

abbrev pub after_line : List ℕ → List ℕ
after_line [] = []
after_line (c ∷ rest) = if c == 10 then rest else after_line rest

abbrev pub next_line : List ℕ → Option (List ℕ × List ℕ)
next_line [] = None
next_line (c ∷ rest) = Some (line_of (c ∷ rest), after_line (c ∷ rest))

abbrev pub same_stream : Stream → Stream → Bool
same_stream input_stream input_stream = true
same_stream output_stream output_stream = true
same_stream _ _ = false

-- primary_input, primary_output | (): T
abbrev pub stream_primary : Stream → Primitive
stream_primary s os = with_none os (gives (stream_object s))

-- getc | (T): char | not_possible(string), end_of_file | takes the next byte, byte 10 too
abbrev pub stream_getc : Primitive
stream_getc os = reading os (λ left. or_signals signal.EndOfFile (next_byte left) (λ next. leaves next.1 (gives (char_object next.0))))

-- getl | (T): string | not_possible(string), end_of_file | 1 + w(n) words | takes the bytes up to byte 10, which is taken
-- and dropped, or to the end; end_of_file if nothing is left; it counts the bytes of the string besides
abbrev pub stream_getl : Primitive
stream_getl os = reading os (λ left. or_signals signal.EndOfFile (next_line left) (λ next.
    leaves next.1 (counts (length next.0) (new_string next.0))))

-- empty | (T): bool | not_possible(string) | whether nothing is left
abbrev pub stream_empty : Primitive
stream_empty os = reading os (λ left. gives_bool (is_empty left))

-- putc | (T, char) | not_possible(string)
abbrev pub stream_putc : Primitive
stream_putc os = with_two os (λ a b. with_stream a (λ s. with_char b (λ c. writes s (c ∷ []))))

-- puts | (T, string) | not_possible(string) | it counts the bytes of the string besides
abbrev pub stream_puts : Primitive
stream_puts os = with_two os (λ a b. with_stream a (λ s. with_string b (λ bytes. counts (length bytes) (writes s bytes))))

-- putl | (T, string) | not_possible(string) | the string and byte 10; it counts the bytes of the string besides
abbrev pub stream_putl : Primitive
stream_putl os = with_two os (λ a b. with_stream a (λ s. with_string b (λ bytes. counts (length bytes) (writes s (bytes ++ 10 ∷ [])))))

-- equal | (T, T): bool
abbrev pub stream_equal : Primitive
stream_equal os = with_two os (λ a b. with_stream a (λ s. with_stream b (λ t. gives_bool (same_stream s t))))

abbrev pub stream_primitives : Primitives
stream_primitives =
    (codes "primary_input", stream_primary input_stream) ∷
    (codes "primary_output", stream_primary output_stream) ∷
    (codes "getc", stream_getc) ∷
    (codes "getl", stream_getl) ∷
    (codes "empty", stream_empty) ∷
    (codes "putc", stream_putc) ∷
    (codes "puts", stream_puts) ∷
    (codes "putl", stream_putl) ∷
    (codes "equal", stream_equal) ∷
    []
