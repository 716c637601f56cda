-- The code of the operations that are values and look into the words of objects.
use Rattle.std.specs.Prelude.{ℕ, ◌+◌, ◌*◌, List, [], ◌∷◌, ◌++◌, codes}
use Rattle.clu_types.specs.CluType.{Fields}
use Rattle.clu_wir.specs.declared.expression.WOp.TheVariants as op
use Rattle.clu_wir.specs.declared.trap.Trap.TheVariants as trap
use Rattle.clu_wir.specs.Plain.{Expr, slot, word, load, byte, binary, choice, check, binding, bound, exprs_of}
use Rattle.clu_representation.specs.Shown.{place_of_field}
use Rattle.laws_operations.specs.Rows.{Row, row}

abbrev first : Expr
first = bound 0

abbrev second : Expr
second = bound 1

abbrev of_one : Expr → Expr
of_one e = binding (exprs_of (slot 0 ∷ [])) e

abbrev of_both : Expr → Expr
of_both e = binding (exprs_of (slot 0 ∷ slot 1 ∷ [])) e

-- a word of the object that is bound first
abbrev its : ℕ → Expr
its bytes = load first bytes

-- ---- strings: the word of the size, after which the bytes lie

-- of strings and of sequences
abbrev pub size_code : Expr
size_code = load (slot 0) 0

abbrev pub empty_code : Expr
empty_code = binary op.Equal (load (slot 0) 0) (word 0)

abbrev pub string_fetch_code : Expr
string_fetch_code = of_both (check (binary op.Sltu (binary op.Sub second (word 1)) (its 0)) trap.Bounds (byte (binary op.Add (binary op.Add first (word 7)) second)))

abbrev pub string_load_rows : List Row
string_load_rows = row (codes "size") size_code ∷ row (codes "empty") empty_code ∷ row (codes "fetch") string_fetch_code ∷ []

-- ---- sequences: the word of the size, after which the elements lie

-- the element whose place is bound after the sequence, from 1
abbrev element : Expr
element = load (binary op.Add first (binary op.Sll second (word 3))) 0

abbrev pub sequence_fetch_code : Expr
sequence_fetch_code = of_both (check (binary op.Sltu (binary op.Sub second (word 1)) (its 0)) trap.Bounds element)

abbrev pub sequence_bottom_code : Expr
sequence_bottom_code = of_one (check (its 0) trap.Bounds (its 8))

abbrev pub sequence_top_code : Expr
sequence_top_code = of_one (binding (exprs_of (first ∷ its 0 ∷ [])) (check second trap.Bounds element))

abbrev pub sequence_rows : List Row
sequence_rows =
    row (codes "size") size_code ∷
    row (codes "empty") empty_code ∷
    row (codes "fetch") sequence_fetch_code ∷
    row (codes "bottom") sequence_bottom_code ∷
    row (codes "top") sequence_top_code ∷
    []

-- ---- arrays: low bound, size, room, place of the first element in the room, address of the room

abbrev pub array_size_code : Expr
array_size_code = load (slot 0) 8

abbrev pub low_code : Expr
low_code = load (slot 0) 0

abbrev pub high_code : Expr
high_code = of_one (binary op.Sub (binary op.Add (its 0) (its 8)) (word 1))

abbrev pub array_empty_code : Expr
array_empty_code = binary op.Equal (load (slot 0) 8) (word 0)

-- the address of the word at a place of the room that is bound after the array, which may be past the room's end
abbrev at_place : Expr
at_place = binary op.Add (its 32) (binary op.Sll (choice (binary op.Sltu second (its 16)) second (binary op.Sub second (its 16))) (word 3))

-- the address of the element at a place that is bound after the array, counted from the first
abbrev at_number : Expr
at_number = binding (exprs_of (first ∷ binary op.Add (its 24) second ∷ [])) at_place

-- the address of the element of an index
abbrev pub at_index : Expr
at_index = of_both (binding (exprs_of (first ∷ binary op.Sub second (its 0) ∷ [])) (check (binary op.Sltu second (its 8)) trap.Bounds at_number))

abbrev pub array_fetch_code : Expr
array_fetch_code = load at_index 0

abbrev pub array_bottom_code : Expr
array_bottom_code = of_one (check (its 8) trap.Bounds (load (binary op.Add (its 32) (binary op.Sll (its 24) (word 3))) 0))

abbrev pub array_top_code : Expr
array_top_code = of_one (check (its 8) trap.Bounds (load (binding (exprs_of (first ∷ binary op.Sub (its 8) (word 1) ∷ [])) at_number) 0))

abbrev pub array_rows : List Row
array_rows =
    row (codes "size") array_size_code ∷
    row (codes "low") low_code ∷
    row (codes "high") high_code ∷
    row (codes "empty") array_empty_code ∷
    row (codes "fetch") array_fetch_code ∷
    row (codes "bottom") array_bottom_code ∷
    row (codes "top") array_top_code ∷
    []

-- ---- records, structs, oneofs and variants: what is known of a selector or tag is its place, from 0

-- the component, behind the word of the object that is not used
abbrev pub get_code : ℕ → Expr
get_code place = load (binary op.Add (slot 0) (word ((place + 1) * 8))) 0

-- of records and structs
abbrev pub component_rows : Fields → List ℕ → List Row
component_rows fs s = row (codes "get_" ++ s) (get_code (place_of_field fs s)) ∷ []

-- whether the first word is the number of the tag
abbrev pub is_code : ℕ → Expr
is_code place = binary op.Equal (load (slot 0) 0) (word place)

abbrev pub value_code : ℕ → Expr
value_code place = of_one (check (binary op.Equal (its 0) (word place)) trap.WrongTag (its 8))

-- of oneofs and variants
abbrev pub tag_rows : Fields → List ℕ → List Row
tag_rows fs s = row (codes "is_" ++ s) (is_code (place_of_field fs s)) ∷ row (codes "value_" ++ s) (value_code (place_of_field fs s)) ∷ []
