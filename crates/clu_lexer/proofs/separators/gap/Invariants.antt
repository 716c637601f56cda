use Rattle.std.proofs.Common.{◌≡◌, ◌+◌, drop, false}
use Rattle.clu_lexer.specs.Separators.{gap_len}
use Rattle.clu_lexer.proofs.separators.gap.Given as goal

abbrev pub invariant-loop-at : goal.invariant-loop-at
invariant-loop-at l = l.at + gap_len l.in_comment (drop l.at l.bytes) ≡ gap_len false l.bytes
