use Rattle.std.proofs.Common.{length}
use Rattle.clu_demands.proofs.whole.+holds_demands.Given as goal

abbrev pub decreases-holds_demands : goal.decreases-holds_demands
decreases-holds_demands l = length l.demands.now
