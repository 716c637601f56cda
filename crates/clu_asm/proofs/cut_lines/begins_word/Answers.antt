use Rattle.std.proofs.Common.{◌≡◌, ◌<◌, ◌^◌, rules}
use Rattle.clu_asm.proofs.CutLemmas.{word_so, word_none}
use Rattle.clu_asm.proofs.DigitLemmas.{digits_word}
use Rattle.clu_asm.proofs.FrontLemmas.{yes, no, not_so}
use Rattle.clu_asm.proofs.cut_lines.begins_word.Goals as goal

pub returns-then-begins_row : goal.returns-then-begins_row
returns-then-begins_row c = yes (digits_word c.args.cut.now (c.begins_row.ensures.0 c.if-begins_row.true))

pub returns-in-Some : goal.returns-in-Some
returns-in-Some c =
    let read = c.in-Some.ensures {u = tt} in
    let lt : c.in-Some.w < 2 ^ 32 = search rules in
    word_so c.args.cut.now c.in-Some.w c.decode.result c.is_none.result c.is_none.ensures c.decode.ensures.value lt read.text (not_so c.begins_row.result c.if-begins_row.false c.begins_row.ensures) read.only

pub returns-in-None : goal.returns-in-None
returns-in-None c =
    let read = c.in-None.ensures {u = tt} in
    no (word_none c.args.cut.now (not_so c.begins_row.result c.if-begins_row.false c.begins_row.ensures) (λ v lt e. let x = read.only v lt e in cc (x)))
