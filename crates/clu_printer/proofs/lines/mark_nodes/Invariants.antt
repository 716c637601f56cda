use Rattle.std.proofs.Common.{◌≡◌, ◌≤◌, length}
use Rattle.clu_printer.specs.Lines.{with_nodes}
use Rattle.clu_printer.specs.Printed.{marked}
use Rattle.clu_printer.proofs.lines.mark_nodes.Given as goal

abbrev pub invariant-loop-n : goal.invariant-loop-n
invariant-loop-n l =
    (with_nodes l.fn.tree l.fn.symbols l.n (marked l.layout l.indents.items) ≡ with_nodes l.fn.tree l.fn.symbols (length l.fn.tree) (marked l.fn.layout l.fn.indents.items))
    × (l.n ≤ length l.fn.tree)

abbrev pub decreases-loop-n : goal.decreases-loop-n
decreases-loop-n l = l.n
