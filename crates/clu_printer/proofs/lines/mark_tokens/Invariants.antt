use Rattle.std.proofs.Common.{◌≡◌, ◌<◌, length}
use Rattle.std.specs.Prelude.{All}
use Rattle.clu_printer.specs.Lines.{with_children}
use Rattle.clu_printer.proofs.lines.mark_tokens.Given as goal

abbrev pub invariant-loop-children : goal.invariant-loop-children
invariant-loop-children l =
    (with_children l.fn.tree l.fn.symbols l.fn.node l.fn.indent l.from l.children l.begins.items ≡ with_children l.fn.tree l.fn.symbols l.fn.node l.fn.indent l.initial.from l.initial.children l.fn.begins.items)
    × All (λ c. c < length l.fn.tree) l.children

abbrev pub decreases-loop-children : goal.decreases-loop-children
decreases-loop-children l = length l.children
