use Rattle.clu_asm.proofs.CutLemmas.{word_code, code_rest}
use Rattle.clu_asm.proofs.FrontLemmas.{yes, not_so}
use Rattle.clu_asm.proofs.cut_lines.begins_code.Goals as goal

pub returns-then-begins_word : goal.returns-then-begins_word
returns-then-begins_word c = yes (word_code c.args.cut.now (c.begins_word.ensures.0 c.if-begins_word.true))

pub returns-else-begins_word : goal.returns-else-begins_word
returns-else-begins_word c = code_rest c.args.cut.now c.begins_instr.result (not_so c.begins_word.result c.if-begins_word.false c.begins_word.ensures) c.begins_instr.ensures
