-- Samples of the operations of string. A string of n bytes takes 1 and n / 8 rounded up words; a new one counts these
-- words and its bytes.
use Rattle.std.specs.Prelude.{refl, true, false, [], ◌∷◌, pos}
use Rattle.clu_types.specs.CluType.{string_type, char_type, array_of}
use Rattle.clu_layout.specs.Objects.{bool_object, char_object, reference, Cell, array_cell}
use Rattle.clu_layout.specs.Computing.{computing}
use Rattle.clu_layout.proofs.Sampling.{one, two, three, int, below_zero, string, Gives, Signals, Makes, Does}

size : Gives string_type "size" (one (string "hello")) (int 5) 0 1
unfolding computing
size = refl

size_of_empty : Gives string_type "size" (one (string "")) (int 0) 0 1
unfolding computing
size_of_empty = refl

empty : Gives string_type "empty" (one (string "")) (bool_object true) 0 1
unfolding computing
empty = refl

not_empty : Gives string_type "empty" (one (string "a")) (bool_object false) 0 1
unfolding computing
not_empty = refl

-- comparisons count the bytes of both strings besides
lt_prefix : Gives string_type "lt" (two (string "ab") (string "abc")) (bool_object true) 0 6
unfolding computing
lt_prefix = refl

lt_bytes : Gives string_type "lt" (two (string "abd") (string "abc")) (bool_object false) 0 7
unfolding computing
lt_bytes = refl

lt_same : Gives string_type "lt" (two (string "a") (string "a")) (bool_object false) 0 3
unfolding computing
lt_same = refl

le_same : Gives string_type "le" (two (string "a") (string "a")) (bool_object true) 0 3
unfolding computing
le_same = refl

le_less : Gives string_type "le" (two (string "abc") (string "b")) (bool_object true) 0 5
unfolding computing
le_less = refl

le_greater : Gives string_type "le" (two (string "b") (string "abc")) (bool_object false) 0 5
unfolding computing
le_greater = refl

ge_same : Gives string_type "ge" (two (string "a") (string "a")) (bool_object true) 0 3
unfolding computing
ge_same = refl

ge : Gives string_type "ge" (two (string "b") (string "abc")) (bool_object true) 0 5
unfolding computing
ge = refl

ge_prefix : Gives string_type "ge" (two (string "") (string "a")) (bool_object false) 0 2
unfolding computing
ge_prefix = refl

gt : Gives string_type "gt" (two (string "b") (string "abc")) (bool_object true) 0 5
unfolding computing
gt = refl

gt_less : Gives string_type "gt" (two (string "abc") (string "b")) (bool_object false) 0 5
unfolding computing
gt_less = refl

gt_same : Gives string_type "gt" (two (string "a") (string "a")) (bool_object false) 0 3
unfolding computing
gt_same = refl

c2s : Gives string_type "c2s" (one (char_object 97)) (string "a") 2 4
unfolding computing
c2s = refl

concat : Gives string_type "concat" (two (string "ab") (string "c")) (string "abc") 2 6
unfolding computing
concat = refl

concat_of_empty : Gives string_type "concat" (two (string "") (string "")) (string "") 1 2
unfolding computing
concat_of_empty = refl

concat_of_nine : Gives string_type "concat" (two (string "abcdefgh") (string "i")) (string "abcdefghi") 3 13
unfolding computing
concat_of_nine = refl

append : Gives string_type "append" (two (string "hello") (char_object 33)) (string "hello!") 2 9
unfolding computing
append = refl

fetch_first : Gives string_type "fetch" (two (string "abc") (int 1)) (char_object 97) 0 1
unfolding computing
fetch_first = refl

fetch_last : Gives string_type "fetch" (two (string "abc") (int 3)) (char_object 99) 0 1
unfolding computing
fetch_last = refl

fetch_before : Signals string_type "fetch" (two (string "abc") (int 0)) "bounds" 1
unfolding computing
fetch_before = refl

fetch_after : Signals string_type "fetch" (two (string "abc") (int 4)) "bounds" 1
unfolding computing
fetch_after = refl

fetch_negative : Signals string_type "fetch" (two (string "abc") (below_zero 0)) "bounds" 1
unfolding computing
fetch_negative = refl

rest : Gives string_type "rest" (two (string "hello") (int 3)) (string "llo") 2 6
unfolding computing
rest = refl

rest_of_none : Gives string_type "rest" (two (string "hello") (int 6)) (string "") 1 2
unfolding computing
rest_of_none = refl

rest_after : Signals string_type "rest" (two (string "hello") (int 7)) "bounds" 1
unfolding computing
rest_after = refl

rest_before : Signals string_type "rest" (two (string "hello") (int 0)) "bounds" 1
unfolding computing
rest_before = refl

substr : Gives string_type "substr" (three (string "hello") (int 2) (int 3)) (string "ell") 2 6
unfolding computing
substr = refl

substr_of_what_is_left : Gives string_type "substr" (three (string "hello") (int 2) (int 9)) (string "ello") 2 7
unfolding computing
substr_of_what_is_left = refl

substr_at_the_end : Gives string_type "substr" (three (string "hello") (int 6) (int 1)) (string "") 1 2
unfolding computing
substr_at_the_end = refl

substr_bounds : Signals string_type "substr" (three (string "hello") (int 7) (int 0)) "bounds" 1
unfolding computing
substr_bounds = refl

-- whatever the place
substr_negative_size : Signals string_type "substr" (three (string "hello") (int 99) (below_zero 0)) "negative_size" 1
unfolding computing
substr_negative_size = refl

-- indexs counts the product of both sizes, each plus 1, besides
indexs : Gives string_type "indexs" (two (string "l") (string "hello")) (int 3) 0 13
unfolding computing
indexs = refl

indexs_of_more : Gives string_type "indexs" (two (string "lo") (string "hello")) (int 4) 0 19
unfolding computing
indexs_of_more = refl

indexs_of_none : Gives string_type "indexs" (two (string "ol") (string "hello")) (int 0) 0 19
unfolding computing
indexs_of_none = refl

indexs_of_empty : Gives string_type "indexs" (two (string "") (string "abc")) (int 1) 0 5
unfolding computing
indexs_of_empty = refl

indexs_in_empty : Gives string_type "indexs" (two (string "") (string "")) (int 1) 0 2
unfolding computing
indexs_in_empty = refl

-- indexc counts the size of the string besides
indexc : Gives string_type "indexc" (two (char_object 108) (string "hello")) (int 3) 0 6
unfolding computing
indexc = refl

indexc_of_none : Gives string_type "indexc" (two (char_object 122) (string "hello")) (int 0) 0 6
unfolding computing
indexc_of_none = refl

string_equal : Gives string_type "equal" (two (string "ab") (string "ab")) (bool_object true) 0 5
unfolding computing
string_equal = refl

string_differ : Gives string_type "equal" (two (string "ab") (string "a")) (bool_object false) 0 4
unfolding computing
string_differ = refl

string_similar : Gives string_type "similar" (two (string "ab") (string "ab")) (bool_object true) 0 5
unfolding computing
string_similar = refl

string_copy : Gives string_type "copy" (one (string "ab")) (string "ab") 0 1
unfolding computing
string_copy = refl

abbrev two_chars : Cell
two_chars = array_cell (record { element = char_type; low = pos 1; items = two (char_object 97) (char_object 98); room = 2 })

s2ac : Makes string_type "s2ac" (one (string "ab")) (array_of char_type) two_chars 8 11
unfolding computing
s2ac = refl

ac2s : Does two_chars string_type "ac2s" (one (reference (array_of char_type) 0)) (one (string "ab")) (two_chars ∷ []) 2 5
unfolding computing
ac2s = refl
