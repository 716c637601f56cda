use Rattle.std.proofs.Common.{◌≡◌, drop}
use Rattle.clu_asm.specs.CutLines.{are_digits}
use Rattle.clu_asm.proofs.rows.are_digits.Given as goal

abbrev pub invariant-loop-b : goal.invariant-loop-b
invariant-loop-b l = are_digits (drop l.b-index l.text) ≡ are_digits l.text
