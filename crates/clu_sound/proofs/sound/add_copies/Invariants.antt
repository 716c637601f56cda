use Rattle.std.proofs.Common.{◌≡◌, ◌++◌, take}
use Rattle.clu_sound.proofs.sound.add_copies.Given as goal

abbrev pub invariant-loop-demand : goal.invariant-loop-demand
invariant-loop-demand l = l.given.items ≡ l.initial.given.items ++ take l.demand-index l.demands
