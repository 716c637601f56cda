use Rattle.std.proofs.Common.{◌∙◌, ◌-◌, ◌+◌, ap, sym}
use Rattle.clu_printer.specs.Lines.{with_words}
use Rattle.clu_printer.proofs.Marking.{words_next}
use Rattle.clu_printer.proofs.lines.mark_words.Goals as goal

pub loop-at-preserved : goal.loop-at-preserved
loop-at-preserved c =
    ap (with_words c.args.symbols.now c.args.indent (c.args.to - (c.loop-at.at + 1)) (c.loop-at.at + 1)) c.mark_word.ensures
    ∙ sym (words_next c.args.symbols.now c.args.indent c.args.to c.loop-at.at c.loop-at.begins.items c.loop-at-test.true)
    ∙ c.loop-at.invariant
