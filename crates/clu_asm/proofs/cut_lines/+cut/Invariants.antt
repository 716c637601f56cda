use Rattle.std.proofs.Common.{◌+◌, ◌*◌, ◌<◌, ℕ, length}
use Rattle.clu_asm.specs.CutLines.{BeginsAt}
use Rattle.clu_asm.proofs.cut_lines.+cut.Given as goal

abbrev pub decreases-begins : goal.decreases-begins
decreases-begins l = 4 * length l.kinds.now

abbrev pub decreases-begins_operand : goal.decreases-begins_operand
decreases-begins_operand l = 4 * length l.rest.now + 3

abbrev pub decreases-begins_number : goal.decreases-begins_number
decreases-begins_number l = 4 * length l.rest.now + 2

abbrev pub decreases-begins_at : goal.decreases-begins_at
decreases-begins_at l = 4 * length l.rest.now + 1

abbrev pub invariant-begins_number-loop-n : goal.invariant-begins_number-loop-n
invariant-begins_number-loop-n l = (k : ℕ) → k < l.n → BeginsAt l.kind l.rest l.cut k → ⊥
