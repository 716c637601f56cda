-- What operators give for constants. Where an operator would signal, and where the type doesn't have it, there is none.
use Rattle.std.specs.Prelude.{◌≡◌, ◌++◌, ℤ, ◌+ℤ◌, ◌-ℤ◌, ◌*ℤ◌, neg_ℤ, nat_abs, FitsSigned, Bool, true, false, not, ◌&&◌, ◌||◌, List, ℕ, Option, Some, None, SomeIff}
use Rattle.std.specs.Option.{option_map}
use Rattle.std.specs.Int.{w64, CanDivide, IsNonZero, IsNonNegative, int_div_euclid, int_rem_euclid, int_pow}
use Rattle.std.specs.declared.cmp.Ordering.{Ordering}
use Rattle.std.specs.Ordering.{is_lt, is_eq, is_gt, nat_cmp, int_cmp}
use Rattle.std.specs.Cmp.Lexicographic.{slice_cmp}
use Rattle.clu_base.specs.declared.constants.Const.{Const}
use Rattle.clu_base.specs.declared.constants.Const.TheVariants as constant
use Rattle.clu_fold.specs.declared.folding.Operator.{Operator}
use Rattle.clu_fold.specs.declared.folding.Operator.TheVariants as op
use Rattle.clu_fold.specs.declared.folding.Prefix.{Prefix}
use Rattle.clu_fold.specs.declared.folding.Prefix.TheVariants as prefix

-- whether a comparison holds for two constants in this order
abbrev pub comparison : Operator → Ordering → Option Bool
comparison op.Less order = Some (is_lt order)
comparison op.LessEqual order = Some (not (is_gt order))
comparison op.Equal order = Some (is_eq order)
comparison op.GreaterEqual order = Some (not (is_lt order))
comparison op.Greater order = Some (is_gt order)
comparison op.NotLess order = Some (not (is_lt order))
comparison op.NotLessEqual order = Some (is_gt order)
comparison op.NotEqual order = Some (not (is_eq order))
comparison op.NotGreaterEqual order = Some (is_lt order)
comparison op.NotGreater order = Some (not (is_gt order))
comparison _ order = None

abbrev pub order_row : Operator → Ordering → Option Const
order_row operator order = option_map constant.Bool (comparison operator order)

-- of null and bool only equality is asked
abbrev pub equality_row : Operator → Bool → Option Const
equality_row op.Equal same = Some (constant.Bool same)
equality_row op.NotEqual same = Some (constant.Bool (not same))
equality_row _ same = None

abbrev pub same : Bool → Bool → Bool
same true b = b
same false b = not b

abbrev pub bool_row : Operator → Bool → Bool → Option Const
bool_row op.And a b = Some (constant.Bool (a && b))
bool_row op.Cand a b = Some (constant.Bool (a && b))
bool_row op.Or a b = Some (constant.Bool (a || b))
bool_row op.Cor a b = Some (constant.Bool (a || b))
bool_row operator a b = equality_row operator (same a b)

-- the int n, where n is one
abbrev pub IsInt : ℤ → Option Const → Type 0
IsInt n folded = SomeIff folded (FitsSigned w64 n) (constant.Int n)

-- the quotient q and the remainder m of x and y have x = y * q + m, 0 <= m < |y|
abbrev pub IsIntRow : Operator → ℤ → ℤ → Option Const → Type 0
IsIntRow op.Add x y folded = IsInt (x +ℤ y) folded
IsIntRow op.Subtract x y folded = IsInt (x -ℤ y) folded
IsIntRow op.Multiply x y folded = IsInt (x *ℤ y) folded
IsIntRow op.Divide x y folded = SomeIff folded (CanDivide w64 x y) (constant.Int (int_div_euclid x y))
IsIntRow op.Modulo x y folded = SomeIff folded (IsNonZero w64 y) (constant.Int (int_rem_euclid x y))
IsIntRow op.Power x y folded = SomeIff folded (IsNonNegative y × FitsSigned w64 (int_pow x (nat_abs y))) (constant.Int (int_pow x (nat_abs y)))
IsIntRow operator x y folded = folded ≡ order_row operator (int_cmp x y)

abbrev pub string_row : Operator → List ℕ → List ℕ → Option Const
string_row op.Concat a b = Some (constant.Str (a ++ b))
string_row operator a b = order_row operator (slice_cmp nat_cmp a b)

-- what an infix operator gives for two constants
abbrev pub IsFolded : Const → Operator → Const → Option Const → Type 0
IsFolded constant.Null operator constant.Null folded = folded ≡ equality_row operator true
IsFolded (constant.Bool a) operator (constant.Bool b) folded = folded ≡ bool_row operator a b
IsFolded (constant.Int x) operator (constant.Int y) folded = IsIntRow operator x y folded
IsFolded (constant.Char a) operator (constant.Char b) folded = folded ≡ order_row operator (nat_cmp a b)
IsFolded (constant.Str a) operator (constant.Str b) folded = folded ≡ string_row operator a b
IsFolded _ operator _ folded = folded ≡ None

-- what a prefix operator gives for a constant
abbrev pub IsPrefixed : Prefix → Const → Option Const → Type 0
IsPrefixed prefix.Minus (constant.Int x) folded = IsInt (neg_ℤ x) folded
IsPrefixed prefix.Not (constant.Bool b) folded = folded ≡ Some (constant.Bool (not b))
IsPrefixed _ _ folded = folded ≡ None
