-- The words of store that an object takes; a word has 8 bytes.
use Rattle.std.specs.Prelude.{ℕ, ◌+◌, ◌/◌, ◌^◌, ◌≤◌}
use Rattle.clu_layout.specs.declared.store.Shape.{Shape}
use Rattle.clu_layout.specs.declared.store.Shape.TheVariants as shape

-- the words that hold n bytes: n / 8, rounded up
abbrev pub words_of_bytes : ℕ → ℕ
words_of_bytes n = (n + 7) / 8

-- A string takes a word for its size and those of its bytes; a sequence a word for its size and one for each element; a
-- record or struct one and one for each component; a oneof two, and a variant three; an array six beside the room for its
-- elements, which takes a word for each. An object that is bound to type any takes two for it.
abbrev pub cost : Shape → ℕ
cost (shape.Str bytes) = 1 + words_of_bytes bytes
cost (shape.Sequence elements) = 1 + elements
cost (shape.Record components) = 1 + components
cost (shape.Struct components) = 1 + components
cost shape.Oneof = 2
cost shape.Variant = 3
cost shape.Array = 6
cost (shape.Cells elements) = elements
cost shape.Boxed = 2

-- the number of bytes or elements is at most 2 ^ 40
abbrev pub IsSmall : Shape → Type 0
IsSmall (shape.Str n) = n ≤ 2 ^ 40
IsSmall (shape.Sequence n) = n ≤ 2 ^ 40
IsSmall (shape.Record n) = Unit {0}
IsSmall (shape.Struct n) = Unit {0}
IsSmall shape.Oneof = Unit {0}
IsSmall shape.Variant = Unit {0}
IsSmall shape.Array = Unit {0}
IsSmall (shape.Cells n) = n ≤ 2 ^ 40
IsSmall shape.Boxed = Unit {0}
