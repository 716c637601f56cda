use Rattle.std.proofs.Common.{◌≡◌}
use Rattle.clu_lexer.proofs.Walk.{state_after, Best}
use Rattle.clu_lexer.proofs.scanner.longest.Given as goal

abbrev pub invariant-loop-at : goal.invariant-loop-at
invariant-loop-at l = (l.state ≡ state_after l.bytes l.at) × Best l.bytes l.at l.best
