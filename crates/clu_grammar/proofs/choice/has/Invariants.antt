use Rattle.std.proofs.Common.{◌≡◌, drop}
use Rattle.clu_grammar.specs.Choice.{has}
use Rattle.clu_grammar.proofs.choice.has.Given as goal

abbrev pub invariant-loop-one : goal.invariant-loop-one
invariant-loop-one l = has (drop l.one-index l.symbols) l.symbol ≡ has l.symbols l.symbol
