use Rattle.std.proofs.Common.{◌≡◌, ◌<◌, length}
use Rattle.std.specs.Prelude.{All}
use Rattle.clu_printer.specs.Lines.{with_indents}
use Rattle.clu_printer.proofs.lines.indent_children.Given as goal

abbrev pub invariant-loop-children : goal.invariant-loop-children
invariant-loop-children l =
    (with_indents l.fn.tree l.fn.node.kind l.fn.indent l.children l.indents.items ≡ with_indents l.fn.tree l.fn.node.kind l.fn.indent l.initial.children l.fn.indents.items)
    × All (λ c. c < length l.fn.tree) l.children

abbrev pub decreases-loop-children : goal.decreases-loop-children
decreases-loop-children l = length l.children
