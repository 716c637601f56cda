use Rattle.std.proofs.Common.{length}
use Rattle.clu_builtin.proofs.select.+is_joined.Given as goal

abbrev pub decreases-is_joined : goal.decreases-is_joined
decreases-is_joined l = length l.front.now
