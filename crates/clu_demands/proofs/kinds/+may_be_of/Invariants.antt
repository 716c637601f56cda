use Rattle.std.proofs.Common.{length}
use Rattle.clu_demands.proofs.kinds.+may_be_of.Given as goal

abbrev pub decreases-may_be_of : goal.decreases-may_be_of
decreases-may_be_of l = length l.actuals.now
