-- Samples of the operations of sequence[t]. One of n elements takes 1 + n words; a new one counts these and its elements.
use Rattle.std.specs.Prelude.{refl, pos, true, false, List, [], ◌∷◌}
use Rattle.clu_types.specs.CluType.{CluType, int_type, any_type, array_of, sequence_of}
use Rattle.clu_layout.specs.Objects.{Object, bool_object, sequence_object, inside, reference, Cell, array_cell}
use Rattle.clu_layout.specs.Computing.{computing}
use Rattle.clu_layout.proofs.Sampling.{one, two, three, int, below_zero, Gives, Signals, Makes, Does}

abbrev ints : CluType
ints = sequence_of int_type

abbrev anys : CluType
anys = sequence_of any_type

abbrev seq : List Object → Object
seq xs = sequence_object int_type (inside xs)

abbrev any_seq : List Object → Object
any_seq xs = sequence_object any_type (inside xs)

abbrev none : Object
none = seq []

abbrev pair : Object
pair = seq (two (int 7) (int 8))

new : Gives ints "new" [] none 1 2
unfolding computing
new = refl

e2s : Gives ints "e2s" (one (int 7)) (seq (one (int 7))) 2 4
unfolding computing
e2s = refl

-- the element is bound to type any
e2s_any : Gives anys "e2s" (one (int 7)) (any_seq (one (int 7))) 4 6
unfolding computing
e2s_any = refl

fill : Gives ints "fill" (two (int 2) (int 7)) (seq (two (int 7) (int 7))) 3 6
unfolding computing
fill = refl

fill_of_none : Gives ints "fill" (two (int 0) (int 7)) none 1 2
unfolding computing
fill_of_none = refl

fill_negative_size : Signals ints "fill" (two (below_zero 0) (int 7)) "negative_size" 1
unfolding computing
fill_negative_size = refl

size : Gives ints "size" (one pair) (int 2) 0 1
unfolding computing
size = refl

empty : Gives ints "empty" (one none) (bool_object true) 0 1
unfolding computing
empty = refl

not_empty : Gives ints "empty" (one pair) (bool_object false) 0 1
unfolding computing
not_empty = refl

fetch : Gives ints "fetch" (two pair (int 2)) (int 8) 0 1
unfolding computing
fetch = refl

fetch_any : Gives anys "fetch" (two (any_seq (one (int 7))) (int 1)) (int 7) 2 3
unfolding computing
fetch_any = refl

fetch_before : Signals ints "fetch" (two pair (int 0)) "bounds" 1
unfolding computing
fetch_before = refl

fetch_after : Signals ints "fetch" (two pair (int 3)) "bounds" 1
unfolding computing
fetch_after = refl

bottom : Gives ints "bottom" (one pair) (int 7) 0 1
unfolding computing
bottom = refl

bottom_bounds : Signals ints "bottom" (one none) "bounds" 1
unfolding computing
bottom_bounds = refl

top : Gives ints "top" (one pair) (int 8) 0 1
unfolding computing
top = refl

top_bounds : Signals ints "top" (one none) "bounds" 1
unfolding computing
top_bounds = refl

replace : Gives ints "replace" (three pair (int 1) (int 3)) (seq (two (int 3) (int 8))) 3 6
unfolding computing
replace = refl

replace_bounds : Signals ints "replace" (three pair (int 3) (int 3)) "bounds" 1
unfolding computing
replace_bounds = refl

addh : Gives ints "addh" (two pair (int 9)) (seq (three (int 7) (int 8) (int 9))) 4 8
unfolding computing
addh = refl

addl : Gives ints "addl" (two pair (int 6)) (seq (three (int 6) (int 7) (int 8))) 4 8
unfolding computing
addl = refl

remh : Gives ints "remh" (one pair) (seq (one (int 7))) 2 4
unfolding computing
remh = refl

remh_bounds : Signals ints "remh" (one none) "bounds" 1
unfolding computing
remh_bounds = refl

reml : Gives ints "reml" (one pair) (seq (one (int 8))) 2 4
unfolding computing
reml = refl

reml_bounds : Signals ints "reml" (one none) "bounds" 1
unfolding computing
reml_bounds = refl

concat : Gives ints "concat" (two pair (seq (one (int 9)))) (seq (three (int 7) (int 8) (int 9))) 4 8
unfolding computing
concat = refl

subseq : Gives ints "subseq" (three pair (int 2) (int 1)) (seq (one (int 8))) 2 4
unfolding computing
subseq = refl

subseq_of_what_is_left : Gives ints "subseq" (three pair (int 1) (int 9)) pair 3 6
unfolding computing
subseq_of_what_is_left = refl

subseq_after_the_last : Gives ints "subseq" (three pair (int 3) (int 1)) none 1 2
unfolding computing
subseq_after_the_last = refl

subseq_bounds : Signals ints "subseq" (three pair (int 4) (int 1)) "bounds" 1
unfolding computing
subseq_bounds = refl

subseq_negative_size : Signals ints "subseq" (three pair (int 4) (below_zero 0)) "negative_size" 1
unfolding computing
subseq_negative_size = refl

abbrev cell : Cell
cell = array_cell (record { element = int_type; low = pos 5; items = two (int 7) (int 8); room = 4 })

a2s : Does cell ints "a2s" (one (reference (array_of int_type) 0)) (one pair) (cell ∷ []) 3 6
unfolding computing
a2s = refl

s2a : Makes ints "s2a" (one pair) (array_of int_type)
    (array_cell (record { element = int_type; low = pos 1; items = two (int 7) (int 8); room = 2 })) 8 11
unfolding computing
s2a = refl
