use Rattle.std.proofs.Common.{◌≡◌, drop}
use Rattle.clu_printer.specs.Printed.{lines, made, nothing_made, printed_behind}
use Rattle.clu_printer.proofs.print.text_of.Given as goal

-- what is still to be printed, after what has been, is all
abbrev pub invariant-loop-at : goal.invariant-loop-at
invariant-loop-at l = printed_behind l.bytes l.symbols (lines l.layout) l.at (drop l.at l.tokens) (made l.text) ≡ printed_behind l.bytes l.symbols (lines l.layout) 0 l.tokens nothing_made
