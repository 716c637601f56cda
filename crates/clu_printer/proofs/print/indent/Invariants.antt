use Rattle.std.proofs.Common.{◌≡◌, ◌++◌}
use Rattle.clu_printer.specs.Printed.{indentation}
use Rattle.clu_printer.proofs.print.indent.Given as goal

abbrev pub invariant-loop : goal.invariant-loop
invariant-loop l = l.bytes.items ≡ l.fn.bytes.items ++ indentation l.counter
