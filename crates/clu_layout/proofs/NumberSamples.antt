-- Samples of the operations of int and char.
use Rattle.std.specs.Prelude.{refl, true, false}
use Rattle.std.specs.Fmt.{digits}
use Rattle.clu_types.specs.CluType.{int_type, char_type}
use Rattle.clu_layout.specs.Objects.{Object, bool_object, char_object}
use Rattle.clu_layout.specs.Computing.{computing}
use Rattle.clu_layout.proofs.Sampling.{one, two, int, below_zero, max_int, min_int, string, Gives, Signals}

abbrev yes_object : Object
yes_object = bool_object true

abbrev no_object : Object
no_object = bool_object false

-- ---- int

add : Gives int_type "add" (two (int 2) (below_zero 4)) (below_zero 2) 0 1
unfolding computing
add = refl

add_overflow : Signals int_type "add" (two max_int (int 1)) "overflow" 1
unfolding computing
add_overflow = refl

add_to_the_least : Gives int_type "add" (two min_int max_int) (below_zero 0) 0 1
unfolding computing
add_to_the_least = refl

sub : Gives int_type "sub" (two (int 2) (int 5)) (below_zero 2) 0 1
unfolding computing
sub = refl

sub_overflow : Signals int_type "sub" (two min_int (int 1)) "overflow" 1
unfolding computing
sub_overflow = refl

mul : Gives int_type "mul" (two (below_zero 2) (int 4)) (below_zero 11) 0 1
unfolding computing
mul = refl

mul_overflow : Signals int_type "mul" (two (int 4294967296) (int 2147483648)) "overflow" 1
unfolding computing
mul_overflow = refl

mul_to_the_least : Gives int_type "mul" (two (int 4294967296) (below_zero 2147483647)) min_int 0 1
unfolding computing
mul_to_the_least = refl

minus : Gives int_type "minus" (one max_int) (below_zero 9223372036854775806) 0 1
unfolding computing
minus = refl

minus_overflow : Signals int_type "minus" (one min_int) "overflow" 1
unfolding computing
minus_overflow = refl

-- 7 = 2 * 3 + 1, -7 = 2 * -4 + 1, 7 = -2 * -3 + 1, -7 = -2 * 4 + 1
div_plain : Gives int_type "div" (two (int 7) (int 2)) (int 3) 0 1
unfolding computing
div_plain = refl

div_negative : Gives int_type "div" (two (below_zero 6) (int 2)) (below_zero 3) 0 1
unfolding computing
div_negative = refl

div_by_negative : Gives int_type "div" (two (int 7) (below_zero 1)) (below_zero 2) 0 1
unfolding computing
div_by_negative = refl

div_both_negative : Gives int_type "div" (two (below_zero 6) (below_zero 1)) (int 4) 0 1
unfolding computing
div_both_negative = refl

div_zero_divide : Signals int_type "div" (two min_int (int 0)) "zero_divide" 1
unfolding computing
div_zero_divide = refl

div_overflow : Signals int_type "div" (two min_int (below_zero 0)) "overflow" 1
unfolding computing
div_overflow = refl

mod_plain : Gives int_type "mod" (two (int 7) (int 2)) (int 1) 0 1
unfolding computing
mod_plain = refl

mod_negative : Gives int_type "mod" (two (below_zero 6) (int 2)) (int 1) 0 1
unfolding computing
mod_negative = refl

mod_by_negative : Gives int_type "mod" (two (int 7) (below_zero 1)) (int 1) 0 1
unfolding computing
mod_by_negative = refl

mod_both_negative : Gives int_type "mod" (two (below_zero 6) (below_zero 1)) (int 1) 0 1
unfolding computing
mod_both_negative = refl

mod_of_the_least : Gives int_type "mod" (two min_int (below_zero 0)) (int 0) 0 1
unfolding computing
mod_of_the_least = refl

mod_zero_divide : Signals int_type "mod" (two (int 7) (int 0)) "zero_divide" 1
unfolding computing
mod_zero_divide = refl

-- power counts 64 besides
power : Gives int_type "power" (two (below_zero 1) (int 3)) (below_zero 7) 0 65
unfolding computing
power = refl

power_of_zero : Gives int_type "power" (two (int 0) (int 0)) (int 1) 0 65
unfolding computing
power_of_zero = refl

power_to_the_least : Gives int_type "power" (two (below_zero 1) (int 63)) min_int 0 65
unfolding computing
power_to_the_least = refl

power_negative_exponent : Signals int_type "power" (two (int 2) (below_zero 0)) "negative_exponent" 65
unfolding computing
power_negative_exponent = refl

power_overflow : Signals int_type "power" (two (int 2) (int 63)) "overflow" 65
unfolding computing
power_overflow = refl

lt : Gives int_type "lt" (two (below_zero 4) (below_zero 3)) yes_object 0 1
unfolding computing
lt = refl

lt_same : Gives int_type "lt" (two (int 3) (int 3)) no_object 0 1
unfolding computing
lt_same = refl

le_same : Gives int_type "le" (two (int 3) (int 3)) yes_object 0 1
unfolding computing
le_same = refl

le_greater : Gives int_type "le" (two (int 3) (below_zero 3)) no_object 0 1
unfolding computing
le_greater = refl

ge_same : Gives int_type "ge" (two (int 3) (int 3)) yes_object 0 1
unfolding computing
ge_same = refl

ge_less : Gives int_type "ge" (two (int 2) (int 3)) no_object 0 1
unfolding computing
ge_less = refl

gt : Gives int_type "gt" (two (int 0) (below_zero 0)) yes_object 0 1
unfolding computing
gt = refl

gt_same : Gives int_type "gt" (two (int 3) (int 3)) no_object 0 1
unfolding computing
gt_same = refl

-- parse counts the bytes of the string besides
parse : Gives int_type "parse" (one (string "12")) (int 12) 0 3
unfolding computing
parse = refl

parse_minus : Gives int_type "parse" (one (string "-5")) (below_zero 4) 0 3
unfolding computing
parse_minus = refl

parse_plus : Gives int_type "parse" (one (string "+7")) (int 7) 0 3
unfolding computing
parse_plus = refl

parse_the_least : Gives int_type "parse" (one (string "-9223372036854775808")) min_int 0 21
unfolding computing
parse_the_least = refl

parse_nothing : Signals int_type "parse" (one (string "")) "bad_format" 1
unfolding computing
parse_nothing = refl

parse_sign_alone : Signals int_type "parse" (one (string "-")) "bad_format" 2
unfolding computing
parse_sign_alone = refl

parse_blank : Signals int_type "parse" (one (string "1 ")) "bad_format" 3
unfolding computing
parse_blank = refl

-- the chars before 0 and after 9
parse_slash : Signals int_type "parse" (one (string "1/")) "bad_format" 3
unfolding computing
parse_slash = refl

parse_colon : Signals int_type "parse" (one (string "1:")) "bad_format" 3
unfolding computing
parse_colon = refl

parse_two_signs : Signals int_type "parse" (one (string "+-1")) "bad_format" 4
unfolding computing
parse_two_signs = refl

parse_overflow : Signals int_type "parse" (one (string "9223372036854775808")) "overflow" 20
unfolding computing
parse_overflow = refl

parse_bad_before_overflow : Signals int_type "parse" (one (string "99999999999999999999x")) "bad_format" 22
unfolding computing
parse_bad_before_overflow = refl

-- unparse takes 4 words, and counts these and the bytes of the new string
unparse : Gives int_type "unparse" (one (int 120)) (string "120") 4 8
unfolding computing digits
unparse = refl

unparse_zero : Gives int_type "unparse" (one (int 0)) (string "0") 4 6
unfolding computing digits
unparse_zero = refl

unparse_the_least : Gives int_type "unparse" (one min_int) (string "-9223372036854775808") 4 25
unfolding computing digits
unparse_the_least = refl

int_equal : Gives int_type "equal" (two (below_zero 2) (below_zero 2)) yes_object 0 1
unfolding computing
int_equal = refl

int_differ : Gives int_type "equal" (two (int 3) (below_zero 2)) no_object 0 1
unfolding computing
int_differ = refl

int_similar : Gives int_type "similar" (two (int 3) (int 3)) yes_object 0 1
unfolding computing
int_similar = refl

int_copy : Gives int_type "copy" (one (int 3)) (int 3) 0 1
unfolding computing
int_copy = refl

-- ---- char

i2c : Gives char_type "i2c" (one (int 255)) (char_object 255) 0 1
unfolding computing
i2c = refl

i2c_too_great : Signals char_type "i2c" (one (int 256)) "illegal_char" 1
unfolding computing
i2c_too_great = refl

i2c_negative : Signals char_type "i2c" (one (below_zero 0)) "illegal_char" 1
unfolding computing
i2c_negative = refl

c2i : Gives char_type "c2i" (one (char_object 97)) (int 97) 0 1
unfolding computing
c2i = refl

char_lt : Gives char_type "lt" (two (char_object 97) (char_object 98)) yes_object 0 1
unfolding computing
char_lt = refl

char_lt_same : Gives char_type "lt" (two (char_object 98) (char_object 98)) no_object 0 1
unfolding computing
char_lt_same = refl

char_lt_greater : Gives char_type "lt" (two (char_object 98) (char_object 97)) no_object 0 1
unfolding computing
char_lt_greater = refl

char_le : Gives char_type "le" (two (char_object 98) (char_object 97)) no_object 0 1
unfolding computing
char_le = refl

char_le_same : Gives char_type "le" (two (char_object 98) (char_object 98)) yes_object 0 1
unfolding computing
char_le_same = refl

char_le_less : Gives char_type "le" (two (char_object 97) (char_object 98)) yes_object 0 1
unfolding computing
char_le_less = refl

char_ge : Gives char_type "ge" (two (char_object 98) (char_object 98)) yes_object 0 1
unfolding computing
char_ge = refl

char_ge_greater : Gives char_type "ge" (two (char_object 98) (char_object 97)) yes_object 0 1
unfolding computing
char_ge_greater = refl

char_ge_less : Gives char_type "ge" (two (char_object 97) (char_object 98)) no_object 0 1
unfolding computing
char_ge_less = refl

char_gt : Gives char_type "gt" (two (char_object 200) (char_object 98)) yes_object 0 1
unfolding computing
char_gt = refl

char_gt_same : Gives char_type "gt" (two (char_object 98) (char_object 98)) no_object 0 1
unfolding computing
char_gt_same = refl

char_gt_less : Gives char_type "gt" (two (char_object 97) (char_object 98)) no_object 0 1
unfolding computing
char_gt_less = refl

char_equal : Gives char_type "equal" (two (char_object 98) (char_object 97)) no_object 0 1
unfolding computing
char_equal = refl

char_similar : Gives char_type "similar" (two (char_object 98) (char_object 98)) yes_object 0 1
unfolding computing
char_similar = refl

char_copy : Gives char_type "copy" (one (char_object 10)) (char_object 10) 0 1
unfolding computing
char_copy = refl
