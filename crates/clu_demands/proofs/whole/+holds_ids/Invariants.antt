use Rattle.std.proofs.Common.{length}
use Rattle.clu_demands.proofs.whole.+holds_ids.Given as goal

abbrev pub decreases-holds_ids : goal.decreases-holds_ids
decreases-holds_ids l = length l.ids.now
