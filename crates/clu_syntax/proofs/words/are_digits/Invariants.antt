use Rattle.std.proofs.Common.{◌≡◌, length}
use Rattle.clu_syntax.specs.Words.{are_digits}
use Rattle.clu_syntax.proofs.words.are_digits.Given as goal

abbrev pub invariant-loop-bytes : goal.invariant-loop-bytes
invariant-loop-bytes l = are_digits l.bytes ≡ are_digits l.initial.bytes

abbrev pub decreases-loop-bytes : goal.decreases-loop-bytes
decreases-loop-bytes l = length l.bytes
