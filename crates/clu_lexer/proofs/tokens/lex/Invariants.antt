use Rattle.std.proofs.Common.{◌-◌, length}
use Rattle.clu_lexer.proofs.Cuts.{Reaches}
use Rattle.clu_lexer.proofs.tokens.lex.Given as goal

abbrev pub invariant-tokens : goal.invariant-tokens
invariant-tokens l = Reaches l.bytes l.tokens.items l.at l.place

abbrev pub decreases-tokens : goal.decreases-tokens
decreases-tokens l = length l.bytes - l.at
