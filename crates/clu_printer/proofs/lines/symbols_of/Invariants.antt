use Rattle.std.proofs.Common.{◌≡◌, take, map}
use Rattle.clu_printer.specs.Printed.{symbol_in}
use Rattle.clu_printer.proofs.lines.symbols_of.Given as goal

abbrev pub invariant-loop-token : goal.invariant-loop-token
invariant-loop-token l = l.symbols.items ≡ map (symbol_in l.bytes) (take l.token-index l.tokens)
