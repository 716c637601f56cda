use Rattle.std.proofs.Common.{length}
use Rattle.clu_demands.proofs.whole.+holds_signals.Given as goal

abbrev pub decreases-holds_signals : goal.decreases-holds_signals
decreases-holds_signals l = length l.signals.now
