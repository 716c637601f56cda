-- A part of an expression has a lower number than its node; what its form asks stands between.
use Rattle.std.specs.Prelude.{◌+◌, ◌*◌}
use Rattle.clu_lower_expr.proofs.walk.+expressions.Given as goal

abbrev pub decreases-lower_expr : goal.decreases-lower_expr
decreases-lower_expr l = 8 * l.n + 7

abbrev pub decreases-add_operand : goal.decreases-add_operand
decreases-add_operand l = 8 * l.n + 8

abbrev pub decreases-add_operands : goal.decreases-add_operands
decreases-add_operands l = 8 * l.n + 1

abbrev pub decreases-lower_all : goal.decreases-lower_all
decreases-lower_all l = 8 * l.n + 2

abbrev pub decreases-prefix : goal.decreases-prefix
decreases-prefix l = 8 * l.n + 3

abbrev pub decreases-get : goal.decreases-get
decreases-get l = 8 * l.n + 3

abbrev pub decreases-index : goal.decreases-index
decreases-index l = 8 * l.n + 3

abbrev pub decreases-operation : goal.decreases-operation
decreases-operation l = 8 * l.n + 3

abbrev pub decreases-condition : goal.decreases-condition
decreases-condition l = 8 * l.n + 3

abbrev pub decreases-record : goal.decreases-record
decreases-record l = 8 * l.n + 3

abbrev pub decreases-array : goal.decreases-array
decreases-array l = 8 * l.n + 3

abbrev pub decreases-invoked : goal.decreases-invoked
decreases-invoked l = 8 * l.n + 3

abbrev pub decreases-infix : goal.decreases-infix
decreases-infix l = 8 * l.n + 4

abbrev pub decreases-call_for_value : goal.decreases-call_for_value
decreases-call_for_value l = 8 * l.n + 4
