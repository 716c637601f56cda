-- What clu_fold gives for constants is what the operations of their types give, but for two ints.
use Rattle.std.proofs.Common.{◌≡◌, ℕ, ℤ, Bool, true, false, not, List, Some, None, refl, ap}
use Rattle.std.specs.declared.cmp.Ordering.{Ordering}
use Rattle.std.specs.declared.cmp.Ordering.TheVariants.{Less, Equal, Greater}
use Rattle.std.specs.Ordering.{is_lt, is_le, is_ge, is_gt, nat_cmp}
use Rattle.std.specs.Cmp.Lexicographic.{slice_cmp}
use Rattle.clu_base.specs.declared.constants.Const.TheVariants as constant
use Rattle.clu_syntax.specs.declared.words.Operator.{Operator}
use Rattle.clu_syntax.specs.declared.words.Operator.TheVariants as op
use Rattle.clu_fold.specs.Folding.{order_row, equality_row, bool_row, string_row}
use Rattle.clu_layout.specs.Computing.{computing}
use Rattle.clu_meaning.specs.Constants.{sugar, folded}
use Rattle.clu_settle.specs.Operators.{folded_by}

-- ---- comparisons by their opposites

pub le_of : (o : Ordering) → not (is_gt o) ≡ is_le o
le_of Less = refl
le_of Equal = refl
le_of Greater = refl

pub ge_of : (o : Ordering) → not (is_lt o) ≡ is_ge o
ge_of Less = refl
ge_of Equal = refl
ge_of Greater = refl

pub gt_of : (o : Ordering) → is_gt o ≡ not (is_le o)
gt_of Less = refl
gt_of Equal = refl
gt_of Greater = refl

pub lt_of : (o : Ordering) → is_lt o ≡ not (is_ge o)
lt_of Less = refl
lt_of Equal = refl
lt_of Greater = refl

pub bool_of : {a b : Bool} → a ≡ b → Some (constant.Bool a) ≡ Some (constant.Bool b)
bool_of e = ap (λ (b : Bool). Some (constant.Bool b)) e

-- ---- two constants of one type

pub of_nulls : (o : Operator) → equality_row (folded_by o) true ≡ folded (sugar o) constant.Null constant.Null
unfolding computing
of_nulls op.Power = refl
of_nulls _ = refl

of_true_true : (o : Operator) → bool_row (folded_by o) true true ≡ folded (sugar o) (constant.Bool true) (constant.Bool true)
unfolding computing
of_true_true op.Power = refl
of_true_true _ = refl

of_true_false : (o : Operator) → bool_row (folded_by o) true false ≡ folded (sugar o) (constant.Bool true) (constant.Bool false)
unfolding computing
of_true_false op.Power = refl
of_true_false _ = refl

of_false_true : (o : Operator) → bool_row (folded_by o) false true ≡ folded (sugar o) (constant.Bool false) (constant.Bool true)
unfolding computing
of_false_true op.Power = refl
of_false_true _ = refl

of_false_false : (o : Operator) → bool_row (folded_by o) false false ≡ folded (sugar o) (constant.Bool false) (constant.Bool false)
unfolding computing
of_false_false op.Power = refl
of_false_false _ = refl

pub of_bools : (o : Operator) (a b : Bool) → bool_row (folded_by o) a b ≡ folded (sugar o) (constant.Bool a) (constant.Bool b)
of_bools o true true = of_true_true o
of_bools o true false = of_true_false o
of_bools o false true = of_false_true o
of_bools o false false = of_false_false o

pub of_chars : (o : Operator) (x y : ℕ) → order_row (folded_by o) (nat_cmp x y) ≡ folded (sugar o) (constant.Char x) (constant.Char y)
unfolding computing
of_chars op.AtMost x y = bool_of (le_of (nat_cmp x y))
of_chars op.AtLeast x y = bool_of (ge_of (nat_cmp x y))
of_chars op.NotAtMost x y = bool_of (gt_of (nat_cmp x y))
of_chars op.NotAtLeast x y = bool_of (lt_of (nat_cmp x y))
of_chars _ x y = refl

pub of_strings : (o : Operator) (x y : List ℕ) → string_row (folded_by o) x y ≡ folded (sugar o) (constant.Str x) (constant.Str y)
unfolding computing
of_strings op.AtMost x y = bool_of (le_of (slice_cmp nat_cmp x y))
of_strings op.AtLeast x y = bool_of (ge_of (slice_cmp nat_cmp x y))
of_strings op.NotAtMost x y = bool_of (gt_of (slice_cmp nat_cmp x y))
of_strings op.NotAtLeast x y = bool_of (lt_of (slice_cmp nat_cmp x y))
of_strings _ x y = refl

-- ---- constants of two types have no operation

pub of_null_and_bool : (o : Operator) (y : Bool) → None ≡ folded (sugar o) constant.Null (constant.Bool y)
unfolding computing
of_null_and_bool op.Power y = refl
of_null_and_bool _ y = refl

pub of_null_and_int : (o : Operator) (y : ℤ) → None ≡ folded (sugar o) constant.Null (constant.Int y)
unfolding computing
of_null_and_int op.Power y = refl
of_null_and_int _ y = refl

pub of_null_and_char : (o : Operator) (y : ℕ) → None ≡ folded (sugar o) constant.Null (constant.Char y)
unfolding computing
of_null_and_char op.Power y = refl
of_null_and_char _ y = refl

pub of_null_and_string : (o : Operator) (y : List ℕ) → None ≡ folded (sugar o) constant.Null (constant.Str y)
unfolding computing
of_null_and_string op.Power y = refl
of_null_and_string _ y = refl

pub of_bool_and_null : (o : Operator) (x : Bool) → None ≡ folded (sugar o) (constant.Bool x) constant.Null
unfolding computing
of_bool_and_null op.Power x = refl
of_bool_and_null op.Cand true = refl
of_bool_and_null op.Cand false = refl
of_bool_and_null op.Cor true = refl
of_bool_and_null op.Cor false = refl
of_bool_and_null _ x = refl

pub of_bool_and_int : (o : Operator) (x : Bool) (y : ℤ) → None ≡ folded (sugar o) (constant.Bool x) (constant.Int y)
unfolding computing
of_bool_and_int op.Power x y = refl
of_bool_and_int op.Cand true y = refl
of_bool_and_int op.Cand false y = refl
of_bool_and_int op.Cor true y = refl
of_bool_and_int op.Cor false y = refl
of_bool_and_int _ x y = refl

pub of_bool_and_char : (o : Operator) (x : Bool) (y : ℕ) → None ≡ folded (sugar o) (constant.Bool x) (constant.Char y)
unfolding computing
of_bool_and_char op.Power x y = refl
of_bool_and_char op.Cand true y = refl
of_bool_and_char op.Cand false y = refl
of_bool_and_char op.Cor true y = refl
of_bool_and_char op.Cor false y = refl
of_bool_and_char _ x y = refl

pub of_bool_and_string : (o : Operator) (x : Bool) (y : List ℕ) → None ≡ folded (sugar o) (constant.Bool x) (constant.Str y)
unfolding computing
of_bool_and_string op.Power x y = refl
of_bool_and_string op.Cand true y = refl
of_bool_and_string op.Cand false y = refl
of_bool_and_string op.Cor true y = refl
of_bool_and_string op.Cor false y = refl
of_bool_and_string _ x y = refl

pub of_int_and_null : (o : Operator) (x : ℤ) → None ≡ folded (sugar o) (constant.Int x) constant.Null
unfolding computing
of_int_and_null op.Power x = refl
of_int_and_null _ x = refl

pub of_int_and_bool : (o : Operator) (x : ℤ) (y : Bool) → None ≡ folded (sugar o) (constant.Int x) (constant.Bool y)
unfolding computing
of_int_and_bool op.Power x y = refl
of_int_and_bool _ x y = refl

pub of_int_and_char : (o : Operator) (x : ℤ) (y : ℕ) → None ≡ folded (sugar o) (constant.Int x) (constant.Char y)
unfolding computing
of_int_and_char op.Power x y = refl
of_int_and_char _ x y = refl

pub of_int_and_string : (o : Operator) (x : ℤ) (y : List ℕ) → None ≡ folded (sugar o) (constant.Int x) (constant.Str y)
unfolding computing
of_int_and_string op.Power x y = refl
of_int_and_string _ x y = refl

pub of_char_and_null : (o : Operator) (x : ℕ) → None ≡ folded (sugar o) (constant.Char x) constant.Null
unfolding computing
of_char_and_null op.Power x = refl
of_char_and_null _ x = refl

pub of_char_and_bool : (o : Operator) (x : ℕ) (y : Bool) → None ≡ folded (sugar o) (constant.Char x) (constant.Bool y)
unfolding computing
of_char_and_bool op.Power x y = refl
of_char_and_bool _ x y = refl

pub of_char_and_int : (o : Operator) (x : ℕ) (y : ℤ) → None ≡ folded (sugar o) (constant.Char x) (constant.Int y)
unfolding computing
of_char_and_int op.Power x y = refl
of_char_and_int _ x y = refl

pub of_char_and_string : (o : Operator) (x : ℕ) (y : List ℕ) → None ≡ folded (sugar o) (constant.Char x) (constant.Str y)
unfolding computing
of_char_and_string op.Power x y = refl
of_char_and_string _ x y = refl

pub of_string_and_null : (o : Operator) (x : List ℕ) → None ≡ folded (sugar o) (constant.Str x) constant.Null
unfolding computing
of_string_and_null op.Power x = refl
of_string_and_null _ x = refl

pub of_string_and_bool : (o : Operator) (x : List ℕ) (y : Bool) → None ≡ folded (sugar o) (constant.Str x) (constant.Bool y)
unfolding computing
of_string_and_bool op.Power x y = refl
of_string_and_bool _ x y = refl

pub of_string_and_int : (o : Operator) (x : List ℕ) (y : ℤ) → None ≡ folded (sugar o) (constant.Str x) (constant.Int y)
unfolding computing
of_string_and_int op.Power x y = refl
of_string_and_int _ x y = refl

pub of_string_and_char : (o : Operator) (x : List ℕ) (y : ℕ) → None ≡ folded (sugar o) (constant.Str x) (constant.Char y)
unfolding computing
of_string_and_char op.Power x y = refl
of_string_and_char _ x y = refl
