use Rattle.std.proofs.Common.{◌≡◌, take}
use Rattle.clu_types.proofs.copy.copy_demands.Given as goal

abbrev pub invariant-loop-demand : goal.invariant-loop-demand
invariant-loop-demand l = l.copied.items ≡ take l.demand-index l.demands
