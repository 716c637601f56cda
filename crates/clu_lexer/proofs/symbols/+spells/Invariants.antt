use Rattle.std.proofs.Common.{length}
use Rattle.clu_lexer.proofs.symbols.+spells.Given as goal

abbrev pub decreases-spells : goal.decreases-spells
decreases-spells l = length l.word.now
