use Rattle.rv_select.proofs.Instructions.{with_word_at}
use Rattle.rv_select.proofs.assembler.replace.Goals as goal

pub returns-clause-instructions : goal.returns-clause-instructions
returns-clause-instructions c = with_word_at c.args.code.now c.args.at c.args.word c.requires.others c.requires.word
