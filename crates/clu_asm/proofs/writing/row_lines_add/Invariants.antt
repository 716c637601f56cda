use Rattle.std.proofs.Common.{◌≡◌, ◌++◌, length}
use Rattle.clu_asm.specs.AssemblyText.{row_lines}
use Rattle.clu_asm.proofs.writing.row_lines_add.Given as goal

abbrev pub invariant-loop-left : goal.invariant-loop-left
invariant-loop-left l = l.out.items ++ row_lines l.word l.left ≡ l.initial.out.items ++ row_lines l.word l.bytes

abbrev pub decreases-loop-left : goal.decreases-loop-left
decreases-loop-left l = length l.left
