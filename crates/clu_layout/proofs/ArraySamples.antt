-- Samples of the operations of array[t]. Cell 0 holds the array that is asked.
use Rattle.std.specs.Prelude.{◌≡◌, refl, ℕ, ℤ, pos, negsuc, true, false, List, [], ◌∷◌, codes}
use Rattle.clu_types.specs.CluType.{CluType, int_type, any_type, array_of}
use Rattle.clu_layout.specs.Objects.{Object, bool_object, reference, Cell, array_cell}
use Rattle.clu_layout.specs.Actions.{signalled, wrong}
use Rattle.clu_layout.specs.Primitive.{prim}
use Rattle.clu_layout.specs.Computing.{computing}
use Rattle.clu_layout.proofs.Sampling.{one, two, three, int, below_zero, max_int, min_int, string, nothing, world, Signals, Fails, Makes, Does, Refuses, GoesOutOfRange}

abbrev ints : CluType
ints = array_of int_type

abbrev anys : CluType
anys = array_of any_type

abbrev it : Object
it = reference ints 0

-- an array of ints with this low bound, these elements and this room
abbrev cell : ℤ → List Object → ℕ → Cell
cell low items room = array_cell (record { element = int_type; low = low; items = items; room = room })

-- the same of type array[any]
abbrev any_cell : List Object → ℕ → Cell
any_cell items room = array_cell (record { element = any_type; low = pos 1; items = items; room = room })

abbrev none : Cell
none = cell (pos 1) [] 0

abbrev pair : Cell
pair = cell (pos 1) (two (int 7) (int 8)) 2

abbrev triple : Cell
triple = cell (pos 1) (three (int 7) (int 8) (int 9)) 3

-- its first place is 5
abbrev from_five : List Object → Cell
from_five items = cell (pos 5) items 3

abbrev five : Cell
five = from_five (three (int 7) (int 8) (int 9))

-- one element at the greatest int, and one at the least low bound, which is the least int plus 1
abbrev high_end : Cell
high_end = cell (pos 9223372036854775807) (one (int 7)) 1

abbrev low_end : Cell
low_end = cell (negsuc 9223372036854775806) (one (int 7)) 1

-- ---- making

create : Makes ints "create" (one (below_zero 2)) ints (cell (negsuc 2) [] 0) 6 7
unfolding computing
create = refl

create_at_the_least : Fails ints "create" (one min_int) "bounds out of range" 1
unfolding computing
create_at_the_least = refl

create_at_the_greatest : Makes ints "create" (one max_int) ints (cell (pos 9223372036854775807) [] 0) 6 7
unfolding computing
create_at_the_greatest = refl

new : Makes ints "new" [] ints none 6 7
unfolding computing
new = refl

predict : Makes ints "predict" (two (int 2) (below_zero 8)) ints (cell (pos 2) [] 0) 6 7
unfolding computing
predict = refl

predict_at_the_least : Fails ints "predict" (two min_int (int 0)) "bounds out of range" 1
unfolding computing
predict_at_the_least = refl

fill : Makes ints "fill" (three (int 0) (int 3) (int 5)) ints (cell (pos 0) (three (int 5) (int 5) (int 5)) 3) 9 13
unfolding computing
fill = refl

fill_of_none : Makes ints "fill" (three (int 0) (int 0) (int 5)) ints (cell (pos 0) [] 0) 6 7
unfolding computing
fill_of_none = refl

fill_negative_size : Signals ints "fill" (three min_int (below_zero 0) (int 5)) "negative_size" 1
unfolding computing
fill_negative_size = refl

fill_out_of_range : Fails ints "fill" (three max_int (int 2) (int 5)) "bounds out of range" 1
unfolding computing
fill_out_of_range = refl

-- the third is bound to type any
fill_any : Makes anys "fill" (three (int 1) (int 1) (int 5)) anys (any_cell (one (int 5)) 1) 9 11
unfolding computing
fill_any = refl

-- ---- bounds

size : Does pair ints "size" (one it) (one (int 2)) (pair ∷ []) 0 1
unfolding computing
size = refl

low : Does low_end ints "low" (one it) (one (below_zero 9223372036854775806)) (low_end ∷ []) 0 1
unfolding computing
low = refl

high : Does triple ints "high" (one it) (one (int 3)) (triple ∷ []) 0 1
unfolding computing
high = refl

low_of_five : Does five ints "low" (one it) (one (int 5)) (five ∷ []) 0 1
unfolding computing
low_of_five = refl

high_of_five : Does five ints "high" (one it) (one (int 7)) (five ∷ []) 0 1
unfolding computing
high_of_five = refl

high_of_none : Does none ints "high" (one it) (one (int 0)) (none ∷ []) 0 1
unfolding computing
high_of_none = refl

empty : Does none ints "empty" (one it) (one (bool_object true)) (none ∷ []) 0 1
unfolding computing
empty = refl

not_empty : Does pair ints "empty" (one it) (one (bool_object false)) (pair ∷ []) 0 1
unfolding computing
not_empty = refl

set_low : Does pair ints "set_low" (two it (int 5)) [] (cell (pos 5) (two (int 7) (int 8)) 2 ∷ []) 0 1
unfolding computing
set_low = refl

set_low_too_low : GoesOutOfRange pair ints "set_low" (two it min_int) 1
unfolding computing
set_low_too_low = refl

set_low_too_high : GoesOutOfRange pair ints "set_low" (two it max_int) 1
unfolding computing
set_low_too_high = refl

-- ---- elements

fetch : Does triple ints "fetch" (two it (int 3)) (one (int 9)) (triple ∷ []) 0 1
unfolding computing
fetch = refl

fetch_before : Refuses triple ints "fetch" (two it (int 0)) "bounds" 1
unfolding computing
fetch_before = refl

fetch_after : Refuses triple ints "fetch" (two it (int 4)) "bounds" 1
unfolding computing
fetch_after = refl

fetch_from_five : Does five ints "fetch" (two it (int 5)) (one (int 7)) (five ∷ []) 0 1
unfolding computing
fetch_from_five = refl

fetch_before_five : Refuses five ints "fetch" (two it (int 4)) "bounds" 1
unfolding computing
fetch_before_five = refl

-- the result is bound to type any
fetch_any : Does (any_cell (one (int 7)) 1) anys "fetch" (two (reference anys 0) (int 1)) (one (int 7)) (any_cell (one (int 7)) 1 ∷ []) 2 3
unfolding computing
fetch_any = refl

store : Does pair ints "store" (three it (int 1) (int 3)) [] (cell (pos 1) (two (int 3) (int 8)) 2 ∷ []) 0 1
unfolding computing
store = refl

store_from_five : Does five ints "store" (three it (int 7) (int 3)) [] (from_five (three (int 7) (int 8) (int 3)) ∷ []) 0 1
unfolding computing
store_from_five = refl

store_bounds : Refuses pair ints "store" (three it (int 3) (int 3)) "bounds" 1
unfolding computing
store_bounds = refl

store_any : Does (any_cell (one (int 7)) 1) anys "store" (three (reference anys 0) (int 1) (string "x")) [] (any_cell (one (string "x")) 1 ∷ []) 2 3
unfolding computing
store_any = refl

-- an exception doesn't give back what binding an argument took
store_any_bounds : prim anys (codes "store") (three (reference anys 0) (int 0) (int 1)) (world (any_cell [] 0 ∷ []) [] [] 0 0)
    ≡ signalled (codes "bounds") [] (world (any_cell [] 0 ∷ []) [] [] 2 3)
unfolding computing
store_any_bounds = refl

bottom : Does pair ints "bottom" (one it) (one (int 7)) (pair ∷ []) 0 1
unfolding computing
bottom = refl

bottom_bounds : Refuses none ints "bottom" (one it) "bounds" 1
unfolding computing
bottom_bounds = refl

top : Does pair ints "top" (one it) (one (int 8)) (pair ∷ []) 0 1
unfolding computing
top = refl

top_bounds : Refuses none ints "top" (one it) "bounds" 1
unfolding computing
top_bounds = refl

-- ---- growing: room that is used up becomes the greater of 4 and twice itself, and the elements count

addh_with_room : Does (cell (pos 1) (one (int 7)) 2) ints "addh" (two it (int 8)) [] (pair ∷ []) 0 1
unfolding computing
addh_with_room = refl

addh_to_none : Does none ints "addh" (two it (int 7)) [] (cell (pos 1) (one (int 7)) 4 ∷ []) 4 5
unfolding computing
addh_to_none = refl

addh_to_two : Does pair ints "addh" (two it (int 9)) [] (cell (pos 1) (three (int 7) (int 8) (int 9)) 4 ∷ []) 4 7
unfolding computing
addh_to_two = refl

addh_to_three : Does triple ints "addh" (two it (int 10)) [] (cell (pos 1) (int 7 ∷ three (int 8) (int 9) (int 10)) 6 ∷ []) 6 10
unfolding computing
addh_to_three = refl

addh_to_five : Does (cell (pos 1) (int 5 ∷ int 6 ∷ three (int 7) (int 8) (int 9)) 5) ints "addh" (two it (int 10)) []
    (cell (pos 1) (int 5 ∷ int 6 ∷ int 7 ∷ three (int 8) (int 9) (int 10)) 10 ∷ []) 10 16
unfolding computing
addh_to_five = refl

-- the element that there is counts, although the array doesn't grow
addh_out_of_range : GoesOutOfRange high_end ints "addh" (two it (int 8)) 2
unfolding computing
addh_out_of_range = refl

addh_any : Does (any_cell [] 0) anys "addh" (two (reference anys 0) (int 7)) [] (any_cell (one (int 7)) 4 ∷ []) 6 7
unfolding computing
addh_any = refl

addl : Does (cell (pos 1) (one (int 8)) 1) ints "addl" (two it (int 7)) [] (cell (pos 0) (two (int 7) (int 8)) 4 ∷ []) 4 6
unfolding computing
addl = refl

addl_with_room : Does (cell (pos 1) (one (int 8)) 2) ints "addl" (two it (int 7)) [] (cell (pos 0) (two (int 7) (int 8)) 2 ∷ []) 0 1
unfolding computing
addl_with_room = refl

addl_out_of_range : GoesOutOfRange low_end ints "addl" (two it (int 8)) 2
unfolding computing
addl_out_of_range = refl

-- with room left none counts
addh_out_of_range_with_room : GoesOutOfRange (cell (pos 9223372036854775807) (one (int 7)) 2) ints "addh" (two it (int 8)) 1
unfolding computing
addh_out_of_range_with_room = refl

-- ---- taking away: the room stays

remh : Does pair ints "remh" (one it) (one (int 8)) (cell (pos 1) (one (int 7)) 2 ∷ []) 0 1
unfolding computing
remh = refl

remh_bounds : Refuses none ints "remh" (one it) "bounds" 1
unfolding computing
remh_bounds = refl

reml : Does pair ints "reml" (one it) (one (int 7)) (cell (pos 2) (one (int 8)) 2 ∷ []) 0 1
unfolding computing
reml = refl

reml_bounds : Refuses none ints "reml" (one it) "bounds" 1
unfolding computing
reml_bounds = refl

-- the low bound would be the greatest int plus 1
reml_out_of_range : GoesOutOfRange high_end ints "reml" (one it) 1
unfolding computing
reml_out_of_range = refl

remh_at_the_end : Does low_end ints "remh" (one it) (one (int 7)) (cell (negsuc 9223372036854775806) [] 1 ∷ []) 0 1
unfolding computing
remh_at_the_end = refl

trim : Does triple ints "trim" (three it (int 2) (int 1)) [] (cell (pos 2) (one (int 8)) 3 ∷ []) 0 1
unfolding computing
trim = refl

trim_from_five : Does five ints "trim" (three it (int 6) (int 1)) [] (cell (pos 6) (one (int 8)) 3 ∷ []) 0 1
unfolding computing
trim_from_five = refl

trim_to_what_is_left : Does triple ints "trim" (three it (int 2) (int 9)) [] (cell (pos 2) (two (int 8) (int 9)) 3 ∷ []) 0 1
unfolding computing
trim_to_what_is_left = refl

trim_after_the_last : Does triple ints "trim" (three it (int 4) (int 1)) [] (cell (pos 4) [] 3 ∷ []) 0 1
unfolding computing
trim_after_the_last = refl

trim_bounds : Refuses triple ints "trim" (three it (int 5) (int 0)) "bounds" 1
unfolding computing
trim_bounds = refl

trim_before : Refuses triple ints "trim" (three it (int 0) (int 0)) "bounds" 1
unfolding computing
trim_before = refl

trim_negative_size : Refuses triple ints "trim" (three it (int 5) (below_zero 0)) "negative_size" 1
unfolding computing
trim_negative_size = refl

-- ---- whole arrays

copy1 : Does (cell (pos 3) (two (int 7) (int 8)) 5) ints "copy1" (one it) (one (reference ints 1))
    (cell (pos 3) (two (int 7) (int 8)) 5 ∷ cell (pos 3) (two (int 7) (int 8)) 2 ∷ []) 8 11
unfolding computing
copy1 = refl

equal_same : Does pair ints "equal" (two it it) (one (bool_object true)) (pair ∷ []) 0 1
unfolding computing
equal_same = refl

equal_other : Does pair ints "equal" (two it (reference ints 1)) (one (bool_object false)) (pair ∷ []) 0 1
unfolding computing
equal_other = refl

-- ---- no case applies

no_int : prim ints (codes "create") (one (string "1")) nothing ≡ wrong
unfolding computing
no_int = refl

other_element : prim ints (codes "addh") (two it (string "1")) (world (none ∷ []) [] [] 0 0) ≡ wrong
unfolding computing
other_element = refl

no_cell : prim ints (codes "size") (one it) nothing ≡ wrong
unfolding computing
no_cell = refl
