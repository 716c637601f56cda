-- An operator gives a string for two strings alone, and no other text of a constant is long.
use Rattle.std.proofs.Common.{◌≡◌, ◌∙◌, ℕ, suc, ◌≤◌, not, ℤ, pos, negsuc, Bool, true, false, List, length, decimal, Option, Some, None, refl, sym, ap, arith}
use Rattle.std.specs.Prelude.{◌+ℤ◌, ◌-ℤ◌, ◌*ℤ◌, neg_ℤ, nat_abs}
use Rattle.std.specs.Int.{is_negative, int_div_euclid, int_rem_euclid, int_pow}
use Rattle.std.specs.Option.{option_and_then, option_map}
use Rattle.std.specs.declared.cmp.Ordering.{Ordering}
use Rattle.std.specs.Ordering.{nat_cmp}
use Rattle.std.proofs.lemmas.Bool.{true≢false, le-ltb}
use Rattle.clu_base.specs.declared.constants.Const.{Const}
use Rattle.clu_base.specs.declared.constants.Const.TheVariants as constant
use Rattle.clu_types.specs.CluType.{int_type}
use Rattle.clu_builtin.specs.declared.names.Signal.TheVariants as signal
use Rattle.clu_builtin.specs.Operation.{one}
use Rattle.clu_fold.specs.declared.folding.Operator as folding
use Rattle.clu_fold.specs.declared.folding.Operator.TheVariants as fold
use Rattle.clu_fold.specs.Folding.{bool_row, comparison, equality_row, order_row}
use Rattle.clu_layout.specs.Actions.{and_then, counts, gives_int, signals_if}
use Rattle.clu_layout.specs.Computing.{computing}
use Rattle.clu_layout.specs.Places.{is_int, is_zero}
use Rattle.clu_layout.specs.Primitive.{done_in, gives_results}
use Rattle.clu_specs.specs.Constants.{constant_text}
use Rattle.clu_syntax.specs.declared.words.Operator.{Operator}
use Rattle.clu_syntax.specs.declared.words.Operator.TheVariants as op
use Rattle.clu_syntax.specs.declared.words.Sign.{Sign}
use Rattle.clu_syntax.specs.declared.words.Sign.TheVariants as sign
use Rattle.clu_syntax.specs.Syntax as syntax
use Rattle.clu_syntax.specs.Syntax.{Literal}
use Rattle.clu_meaning.specs.Constants.{denoted, folded, given_by, no_world, prefixed, sugar}
use Rattle.clu_meaning.specs.Settling.{Value, settled_type, settled_constant, settled_parameter, unsettled, constant_in, constant_value, infix_value}
use Rattle.clu_checking.specs.ConstantRules.{is_long_text}
use Rattle.clu_settle.specs.Lost.{is_too_large}
use Rattle.clu_settle.specs.Operators.{folded_by}
use Rattle.clu_settle.proofs.Operations as plain
use Rattle.clu_name_rules.specs.Lengths.{digits_in}
use Rattle.clu_passes.proofs.LongTexts.{decimal_is, few_digits}

abbrev pub is_string : Const → Bool
is_string (constant.Str bytes) = true
is_string _ = false

abbrev pub holds_string : Option Const → Bool
holds_string (Some c) = is_string c
holds_string None = false

abbrev pub is_string_value : Value → Bool
is_string_value (settled_constant c) = is_string c
is_string_value _ = false

pub in_holds : (v : Value) → is_string_value v ≡ holds_string (constant_in v)
in_holds (settled_type t) = refl
in_holds (settled_constant c) = refl
in_holds (settled_parameter k) = refl
in_holds unsettled = refl

pub value_holds : (c : Option Const) → is_string_value (constant_value c) ≡ holds_string c
value_holds (Some c) = refl
value_holds None = refl

-- ---- of two constants of one type

equal_holds : (p : folding.Operator) (b : Bool) → holds_string (equality_row p b) ≡ false
equal_holds fold.Equal b = refl
equal_holds fold.NotEqual b = refl
equal_holds fold.Power b = refl
equal_holds _ b = refl

bool_holds : (p : folding.Operator) (a b : Bool) → holds_string (bool_row p a b) ≡ false
bool_holds fold.And a b = refl
bool_holds fold.Cand a b = refl
bool_holds fold.Or a b = refl
bool_holds fold.Cor a b = refl
bool_holds fold.Equal a b = refl
bool_holds fold.NotEqual a b = refl
bool_holds fold.Power a b = refl
bool_holds _ a b = refl

compared_holds : (o : Option Bool) → holds_string (option_map constant.Bool o) ≡ false
compared_holds None = refl
compared_holds (Some b) = refl

order_holds : (p : folding.Operator) (o : Ordering) → holds_string (order_row p o) ≡ false
order_holds p o = compared_holds (comparison p o)

-- ---- of two ints, whatever their number is

int_holds : (b : Bool) (n : ℤ) → holds_string (given_by (done_in no_world (counts 1 (and_then (signals_if signal.Overflow (not b) (gives_int n)) (gives_results (one int_type)))))) ≡ false
unfolding computing
int_holds true n = refl
int_holds false n = refl

quotient_holds : (z b : Bool) (n : ℤ) → holds_string (given_by (done_in no_world (counts 1 (and_then (signals_if signal.ZeroDivide z (signals_if signal.Overflow (not b) (gives_int n))) (gives_results (one int_type)))))) ≡ false
unfolding computing
quotient_holds true b n = refl
quotient_holds false true n = refl
quotient_holds false false n = refl

remainder_holds : (z : Bool) (n : ℤ) → holds_string (given_by (done_in no_world (counts 1 (and_then (signals_if signal.ZeroDivide z (gives_int n)) (gives_results (one int_type)))))) ≡ false
unfolding computing
remainder_holds true n = refl
remainder_holds false n = refl

power_holds : (g b : Bool) (n : ℤ) → holds_string (given_by (done_in no_world (counts 1 (and_then (counts 64 (signals_if signal.NegativeExponent g (signals_if signal.Overflow (not b) (gives_int n)))) (gives_results (one int_type)))))) ≡ false
unfolding computing
power_holds true b n = refl
power_holds false true n = refl
power_holds false false n = refl

ints_hold : (o : Operator) (x y : ℤ) → holds_string (folded (sugar o) (constant.Int x) (constant.Int y)) ≡ false
unfolding computing
ints_hold op.Add x y = int_holds (is_int (x +ℤ y)) (x +ℤ y)
ints_hold op.Subtract x y = int_holds (is_int (x -ℤ y)) (x -ℤ y)
ints_hold op.Multiply x y = int_holds (is_int (x *ℤ y)) (x *ℤ y)
ints_hold op.Divide x y = quotient_holds (is_zero y) (is_int (int_div_euclid x y)) (int_div_euclid x y)
ints_hold op.Remainder x y = remainder_holds (is_zero y) (int_rem_euclid x y)
ints_hold op.Power x y = power_holds (is_negative y) (is_int (int_pow x (nat_abs y))) (int_pow x (nat_abs y))
ints_hold _ x y = refl

-- ---- operators

none_holds : {A : Type 0} (r : Option Const) → None ≡ r → holds_string r ≡ true → A
none_holds r e h = absurd (true≢false (sym h ∙ sym (ap holds_string e)))

pub joined : (o : Operator) (a b : Const) → holds_string (folded (sugar o) a b) ≡ true → (is_string a ≡ true) × (is_string b ≡ true)
joined o constant.Null constant.Null h = absurd (true≢false (sym h ∙ ap holds_string (sym (plain.of_nulls o)) ∙ equal_holds (folded_by o) true))
joined o constant.Null (constant.Bool y) h = none_holds (folded (sugar o) constant.Null (constant.Bool y)) (plain.of_null_and_bool o y) h
joined o constant.Null (constant.Int y) h = none_holds (folded (sugar o) constant.Null (constant.Int y)) (plain.of_null_and_int o y) h
joined o constant.Null (constant.Char y) h = none_holds (folded (sugar o) constant.Null (constant.Char y)) (plain.of_null_and_char o y) h
joined o constant.Null (constant.Str y) h = none_holds (folded (sugar o) constant.Null (constant.Str y)) (plain.of_null_and_string o y) h
joined o (constant.Bool x) constant.Null h = none_holds (folded (sugar o) (constant.Bool x) constant.Null) (plain.of_bool_and_null o x) h
joined o (constant.Bool x) (constant.Bool y) h = absurd (true≢false (sym h ∙ ap holds_string (sym (plain.of_bools o x y)) ∙ bool_holds (folded_by o) x y))
joined o (constant.Bool x) (constant.Int y) h = none_holds (folded (sugar o) (constant.Bool x) (constant.Int y)) (plain.of_bool_and_int o x y) h
joined o (constant.Bool x) (constant.Char y) h = none_holds (folded (sugar o) (constant.Bool x) (constant.Char y)) (plain.of_bool_and_char o x y) h
joined o (constant.Bool x) (constant.Str y) h = none_holds (folded (sugar o) (constant.Bool x) (constant.Str y)) (plain.of_bool_and_string o x y) h
joined o (constant.Int x) constant.Null h = none_holds (folded (sugar o) (constant.Int x) constant.Null) (plain.of_int_and_null o x) h
joined o (constant.Int x) (constant.Bool y) h = none_holds (folded (sugar o) (constant.Int x) (constant.Bool y)) (plain.of_int_and_bool o x y) h
joined o (constant.Int x) (constant.Int y) h = absurd (true≢false (sym h ∙ ints_hold o x y))
joined o (constant.Int x) (constant.Char y) h = none_holds (folded (sugar o) (constant.Int x) (constant.Char y)) (plain.of_int_and_char o x y) h
joined o (constant.Int x) (constant.Str y) h = none_holds (folded (sugar o) (constant.Int x) (constant.Str y)) (plain.of_int_and_string o x y) h
joined o (constant.Char x) constant.Null h = none_holds (folded (sugar o) (constant.Char x) constant.Null) (plain.of_char_and_null o x) h
joined o (constant.Char x) (constant.Bool y) h = none_holds (folded (sugar o) (constant.Char x) (constant.Bool y)) (plain.of_char_and_bool o x y) h
joined o (constant.Char x) (constant.Int y) h = none_holds (folded (sugar o) (constant.Char x) (constant.Int y)) (plain.of_char_and_int o x y) h
joined o (constant.Char x) (constant.Char y) h = absurd (true≢false (sym h ∙ ap holds_string (sym (plain.of_chars o x y)) ∙ order_holds (folded_by o) (nat_cmp x y)))
joined o (constant.Char x) (constant.Str y) h = none_holds (folded (sugar o) (constant.Char x) (constant.Str y)) (plain.of_char_and_string o x y) h
joined o (constant.Str x) constant.Null h = none_holds (folded (sugar o) (constant.Str x) constant.Null) (plain.of_string_and_null o x) h
joined o (constant.Str x) (constant.Bool y) h = none_holds (folded (sugar o) (constant.Str x) (constant.Bool y)) (plain.of_string_and_bool o x y) h
joined o (constant.Str x) (constant.Int y) h = none_holds (folded (sugar o) (constant.Str x) (constant.Int y)) (plain.of_string_and_int o x y) h
joined o (constant.Str x) (constant.Char y) h = none_holds (folded (sugar o) (constant.Str x) (constant.Char y)) (plain.of_string_and_char o x y) h
joined o (constant.Str x) (constant.Str y) h = (refl, refl)

pub infix_joined : (o : Operator) (a b : Option Const) → is_string_value (infix_value o a b) ≡ true → (holds_string a ≡ true) × (holds_string b ≡ true)
infix_joined o (Some a) (Some b) h = joined o a b (sym (value_holds (folded (sugar o) a b)) ∙ h)
infix_joined o (Some a) None h = absurd (true≢false (sym h))
infix_joined o None b h = absurd (true≢false (sym h))

sign_holds : (s : Sign) (c : Const) → holds_string (prefixed s c) ≡ false
unfolding computing
sign_holds sign.Minus constant.Null = refl
sign_holds sign.Minus (constant.Bool x) = refl
sign_holds sign.Minus (constant.Int x) = int_holds (is_int (neg_ℤ x)) (neg_ℤ x)
sign_holds sign.Minus (constant.Char x) = refl
sign_holds sign.Minus (constant.Str x) = refl
sign_holds sign.Not constant.Null = refl
sign_holds sign.Not (constant.Bool x) = refl
sign_holds sign.Not (constant.Int x) = refl
sign_holds sign.Not (constant.Char x) = refl
sign_holds sign.Not (constant.Str x) = refl

pub prefix_holds : (s : Sign) (c : Option Const) → is_string_value (constant_value (option_and_then (prefixed s) c)) ≡ false
prefix_holds s (Some c) = value_holds (prefixed s c) ∙ sign_holds s c
prefix_holds s None = refl

-- ---- literals

pub literal_holds : (l : Literal) → is_string_value (constant_value (denoted l)) ≡ true → is_too_large l ≡ false
literal_holds syntax.nil h = refl
literal_holds syntax.true_literal h = refl
literal_holds syntax.false_literal h = refl
literal_holds (syntax.integer digits) h = absurd (true≢false (sym h))
literal_holds (syntax.real text) h = refl
literal_holds (syntax.character text) h = refl
literal_holds (syntax.string text) h = refl

-- ---- texts

few_there : {A : Type 0} (text : List ℕ) → length text ≤ 65 → is_long_text text ≡ true → A
few_there text few h = absurd (true≢false (sym h ∙ le-ltb 65536 (length text) (omega (arith, few))))

int_few : (n : ℤ) → length (constant_text (constant.Int n)) ≤ 65
int_few (pos n) = let few : digits_in 64 n ≤ 64 = few_digits 64 n in let size : length (decimal n) ≡ digits_in 64 n = decimal_is n in omega (arith, few, size)
int_few (negsuc n) = let few : digits_in 64 (suc n) ≤ 64 = few_digits 64 (suc n) in let size : length (decimal (suc n)) ≡ digits_in 64 (suc n) = decimal_is (suc n) in omega (arith, few, size)

pub long_string : (c : Const) → is_long_text (constant_text c) ≡ true → is_string c ≡ true
long_string constant.Null h = absurd (true≢false (sym h))
long_string (constant.Bool true) h = absurd (true≢false (sym h))
long_string (constant.Bool false) h = absurd (true≢false (sym h))
long_string (constant.Int n) h = few_there (constant_text (constant.Int n)) (int_few n) h
long_string (constant.Char b) h = absurd (true≢false (sym h))
long_string (constant.Str bytes) h = refl
