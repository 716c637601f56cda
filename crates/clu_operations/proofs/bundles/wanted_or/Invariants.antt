use Rattle.std.proofs.Common.{◌≡◌, take}
use Rattle.clu_operations.specs.Bundles.{wanted_or}
use Rattle.clu_operations.proofs.bundles.wanted_or.Given as goal

abbrev pub invariant-loop-demand : goal.invariant-loop-demand
invariant-loop-demand l = l.made.items ≡ wanted_or l.other (take l.demand-index l.demands)
