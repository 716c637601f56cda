-- The counts that stand behind the holes of a routine, as far as they are there.
use Rattle.std.specs.Prelude.{ℕ, zero, suc, Bool, true, ◌||◌, ◌==◌, ◌*◌, nat_lt, nat_le, if◌then◌else◌, List, [], ◌∷◌, length, drop, Option, Some, None, Ok, Err}
use Rattle.clu_specs.specs.Reading.{Read}
use Rattle.clu_format.specs.Fields.{number_read, text_read}
use Rattle.clu_object.specs.declared.counts_ahead.CountsAhead.{CountsAhead}

-- what follows so many bytes
abbrev pub skipped : ℕ → List ℕ → Option (List ℕ)
skipped size bytes = if nat_lt (length bytes) size then None else Some (drop size bytes)

abbrev pub rest_of : {X : Type 0} → Read X → Option (List ℕ)
rest_of (Ok x) = Some x.1
rest_of (Err left) = None

abbrev pub text_skipped : List ℕ → Option (List ℕ)
text_skipped bytes = rest_of (text_read 8 bytes)

-- a constant's value, by its kind
unfoldable pub value_skipped : ℕ → List ℕ → Option (List ℕ)
value_skipped kind rest =
    if kind == 0 then Some rest else
    if kind == 1 || kind == 3 then skipped 1 rest else
    if kind == 2 then skipped 8 rest else
    if kind == 4 then text_skipped rest else
    if kind == 5 then skipped 4 rest else None

abbrev pub constant_skipped : List ℕ → Option (List ℕ)
constant_skipped [] = None
constant_skipped (kind ∷ rest) = value_skipped kind rest

abbrev pub go_behind : {X : Type 0} → Option X → (X → Option (List ℕ)) → Option (List ℕ)
go_behind None more = None
go_behind (Some x) more = more x

-- so many items
unfoldable pub items_skipped : (List ℕ → Option (List ℕ)) → ℕ → List ℕ → Option (List ℕ)
items_skipped item zero bytes = Some bytes
items_skipped item (suc n) bytes = go_behind (item bytes) (items_skipped item n)

-- a count at the front, with what follows it
abbrev pub count_in : Read ℕ → Option (ℕ × List ℕ)
count_in (Ok found) = Some found
count_in (Err left) = None

abbrev pub count_at : Option (List ℕ) → Option (ℕ × List ℕ)
count_at None = None
count_at (Some bytes) = count_in (number_read 4 bytes)

abbrev pub behind_items : (List ℕ → Option (List ℕ)) → Option (ℕ × List ℕ) → Option (List ℕ)
behind_items item found = go_behind found (λ x. items_skipped item x.0 x.1)

abbrev pub number_of : Option (ℕ × List ℕ) → Option ℕ
number_of None = None
number_of (Some found) = Some found.0

-- the counts of uses, of constants and of types behind so many holes, which these bytes start with
abbrev pub uses_at : ℕ → List ℕ → Option (ℕ × List ℕ)
uses_at holes bytes = count_at (skipped (9 * holes) bytes)

abbrev pub constants_at : ℕ → List ℕ → Option (ℕ × List ℕ)
constants_at holes bytes = count_at (behind_items text_skipped (uses_at holes bytes))

abbrev pub types_at : ℕ → List ℕ → Option (ℕ × List ℕ)
types_at holes bytes = count_at (behind_items constant_skipped (constants_at holes bytes))

unfoldable pub counts_ahead : ℕ → List ℕ → CountsAhead
counts_ahead holes bytes =
    record { uses = number_of (uses_at holes bytes); constants = number_of (constants_at holes bytes); types = number_of (types_at holes bytes) }

-- whether a number is below a count, if the count is there
abbrev pub is_below : ℕ → Option ℕ → Bool
is_below number None = true
is_below number (Some count) = nat_lt number count

-- whether a hole of a kind may have a number, in a routine of so many code words
abbrev pub allows : CountsAhead → ℕ → ℕ → ℕ → Bool
allows ahead kind number words =
    if nat_le kind 1 then is_below number ahead.uses else
    if kind == 2 then is_below number ahead.constants else
    if kind == 5 then is_below number ahead.types else
    if kind == 8 then nat_lt number words else true
