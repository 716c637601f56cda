use Rattle.clu_library.specs.Resting.{with_changed}
use Rattle.std.specs.Option.{option_copied}
use Rattle.clu_library.proofs.Closing.{Reaching}
use Rattle.clu_library.proofs.closure.add_reached.Given as goal

abbrev pub invariant-loop-n : goal.invariant-loop-n
invariant-loop-n l = Reaching (with_changed l.specs (option_copied l.changed)) l.own l.initial.found.keys l.found.keys l.n
