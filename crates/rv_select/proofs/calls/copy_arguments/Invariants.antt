use Rattle.std.proofs.Common.{◌≡◌}
use Rattle.rv_select.specs.Steps.{arguments_onto}
use Rattle.rv_select.specs.Written.{written}
use Rattle.rv_select.proofs.calls.copy_arguments.Given as goal

abbrev pub invariant-loop-argument : goal.invariant-loop-argument
invariant-loop-argument l = written l.words ≡ arguments_onto l.argument (written l.fn.words)
