use Rattle.std.proofs.Common.{◌≡◌, ◌-◌}
use Rattle.clu_printer.specs.Lines.{with_words}
use Rattle.clu_printer.proofs.lines.mark_words.Given as goal

abbrev pub invariant-loop-at : goal.invariant-loop-at
invariant-loop-at l = with_words l.symbols l.indent (l.to - l.at) l.at l.begins.items ≡ with_words l.symbols l.indent (l.to - l.from) l.from l.fn.begins.items
