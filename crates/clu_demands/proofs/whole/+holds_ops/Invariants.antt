use Rattle.std.proofs.Common.{length}
use Rattle.clu_demands.proofs.whole.+holds_ops.Given as goal

abbrev pub decreases-holds_ops : goal.decreases-holds_ops
decreases-holds_ops l = length l.ops.now
