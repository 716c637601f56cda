-- The operators of expressions, as clu_fold names them, and their values where an operand is no constant.
use Rattle.std.specs.Prelude.{◌≡◌, ℕ, List, Option, Some, None, FitsSigned}
use Rattle.std.specs.Int.{w64}
use Rattle.clu_base.specs.declared.constants.Const.{Const}
use Rattle.clu_base.specs.declared.constants.Const.TheVariants as constant
use Rattle.clu_syntax.specs.declared.words.Operator.{Operator}
use Rattle.clu_syntax.specs.declared.words.Operator.TheVariants as op
use Rattle.clu_syntax.specs.declared.words.Sign.{Sign}
use Rattle.clu_syntax.specs.declared.words.Sign.TheVariants as sign
use Rattle.clu_fold.specs.declared.folding.Operator as folding
use Rattle.clu_fold.specs.declared.folding.Operator.TheVariants as fold
use Rattle.clu_fold.specs.declared.folding.Prefix as folding_prefix
use Rattle.clu_fold.specs.declared.folding.Prefix.TheVariants as prefix
use Rattle.clu_constants.specs.Held.{AreJoined}
use Rattle.clu_settle.specs.declared.value.Value.{Value}
use Rattle.clu_settle.specs.declared.value.Value.TheVariants as value

abbrev pub folded_by : Operator → folding.Operator
folded_by op.Power = fold.Power
folded_by op.Multiply = fold.Multiply
folded_by op.Divide = fold.Divide
folded_by op.Remainder = fold.Modulo
folded_by op.Add = fold.Add
folded_by op.Subtract = fold.Subtract
folded_by op.Concatenate = fold.Concat
folded_by op.Less = fold.Less
folded_by op.AtMost = fold.LessEqual
folded_by op.Equal = fold.Equal
folded_by op.AtLeast = fold.GreaterEqual
folded_by op.Greater = fold.Greater
folded_by op.NotLess = fold.NotLess
folded_by op.NotAtMost = fold.NotLessEqual
folded_by op.NotEqual = fold.NotEqual
folded_by op.NotAtLeast = fold.NotGreaterEqual
folded_by op.NotGreater = fold.NotGreater
folded_by op.And = fold.And
folded_by op.Cand = fold.Cand
folded_by op.Or = fold.Or
folded_by op.Cor = fold.Cor

abbrev pub prefix_by : Sign → folding_prefix.Prefix
prefix_by sign.Not = prefix.Not
prefix_by sign.Minus = prefix.Minus

-- the value of an operator with an operand that is no constant
abbrev pub nothing_beside : Value → Value
nothing_beside value.Lost = value.Lost
nothing_beside _ = value.Nothing

-- an int has 64 bits
abbrev pub IsInRange : Const → Type 0
IsInRange (constant.Int n) = FitsSigned w64 n
IsInRange _ = Unit {0}

-- || joins the strings of two places, or there is nothing new
abbrev pub IsJoinedBy : Operator → List Const → List Const → ℕ → ℕ → Option ℕ → Type 0
IsJoinedBy operator old new a b (Some place) = (operator ≡ op.Concatenate) × AreJoined old new a b place
IsJoinedBy operator old new a b None = new ≡ old
