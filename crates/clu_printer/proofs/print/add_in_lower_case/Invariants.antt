use Rattle.std.proofs.Common.{◌≡◌, ◌++◌, take, map}
use Rattle.std.specs.Char.{to_ascii_lowercase}
use Rattle.clu_printer.proofs.print.add_in_lower_case.Given as goal

abbrev pub invariant-loop-b : goal.invariant-loop-b
invariant-loop-b l = l.bytes.items ≡ l.fn.bytes.items ++ map to_ascii_lowercase (take l.b-index l.text)
