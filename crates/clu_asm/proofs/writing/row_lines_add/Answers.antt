use Rattle.clu_asm.proofs.RowLemmas.{written_on, written_all}
use Rattle.clu_asm.proofs.writing.row_lines_add.Goals as goal

pub loop-left-preserved : goal.loop-left-preserved
loop-left-preserved c =
    rw (c.in_ok-row_line_add.ensures {u = tt}, c.split_at.ensures.front, c.split_at.ensures.back)
    (written_on c.loop-left.out.items c.args.out.now.items c.args.word.now c.loop-left.left.now c.args.bytes.now c.loop-left-test.true c.loop-left.invariant)

pub returns : goal.returns
returns c = written_all c.loop-left.out.items c.args.out.now.items c.args.word.now c.loop-left.left.now c.args.bytes.now c.loop-left-test.false c.loop-left.invariant
