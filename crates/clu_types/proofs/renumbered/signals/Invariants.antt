use Rattle.std.proofs.Common.{◌≡◌, map, take}
use Rattle.clu_types.specs.Numbering.{numbers_of}
use Rattle.clu_types.specs.Renumbered.{signal_in}
use Rattle.clu_types.proofs.renumbered.signals.Given as goal

abbrev pub invariant-loop-one : goal.invariant-loop-one
invariant-loop-one l = l.made.items ≡ map (signal_in (numbers_of l.table)) (take l.one-index l.old)
