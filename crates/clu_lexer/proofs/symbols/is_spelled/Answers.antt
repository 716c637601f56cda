use Rattle.std.proofs.Common.{sym}
use Rattle.clu_lexer.proofs.Lengths.{spells-other}
use Rattle.clu_lexer.proofs.symbols.is_spelled.Goals as goal

pub returns-then-word-text : goal.returns-then-word-text
returns-then-word-text c = sym (spells-other c.args.word.now c.args.text.now c.if-word-text.true)
