-- The operations for which operators stand.
use Rattle.std.specs.Prelude.{ℕ, Bool, true, false, List, codes, Option, Some, None}
use Rattle.clu_syntax.specs.declared.words.Operator.{Operator}
use Rattle.clu_syntax.specs.declared.words.Operator.TheVariants as op
use Rattle.clu_syntax.specs.declared.words.Sign.{Sign}
use Rattle.clu_syntax.specs.declared.words.Sign.TheVariants as sign

-- of a comparison with `~` that of the comparison
unfoldable pub infix_operation : Operator → Option (List ℕ)
infix_operation op.Power = Some (codes "power")
infix_operation op.Multiply = Some (codes "mul")
infix_operation op.Divide = Some (codes "div")
infix_operation op.Remainder = Some (codes "mod")
infix_operation op.Add = Some (codes "add")
infix_operation op.Subtract = Some (codes "sub")
infix_operation op.Concatenate = Some (codes "concat")
infix_operation op.Less = Some (codes "lt")
infix_operation op.AtMost = Some (codes "le")
infix_operation op.Equal = Some (codes "equal")
infix_operation op.AtLeast = Some (codes "ge")
infix_operation op.Greater = Some (codes "gt")
infix_operation op.NotLess = Some (codes "lt")
infix_operation op.NotAtMost = Some (codes "le")
infix_operation op.NotEqual = Some (codes "equal")
infix_operation op.NotAtLeast = Some (codes "ge")
infix_operation op.NotGreater = Some (codes "gt")
infix_operation op.And = Some (codes "and")
infix_operation op.Or = Some (codes "or")
infix_operation op.Cand = None
infix_operation op.Cor = None

abbrev pub is_negated : Operator → Bool
is_negated op.NotLess = true
is_negated op.NotAtMost = true
is_negated op.NotEqual = true
is_negated op.NotAtLeast = true
is_negated op.NotGreater = true
is_negated _ = false

unfoldable pub prefix_operation : Sign → List ℕ
prefix_operation sign.Not = codes "not"
prefix_operation sign.Minus = codes "minus"
