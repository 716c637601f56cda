use Rattle.std.proofs.Common.{◌≤◌, length}
use Rattle.clu_syntax.proofs.Downward.{Done}
use Rattle.clu_syntax.proofs.surround.rounds.Given as goal

abbrev pub invariant-loop-n : goal.invariant-loop-n
invariant-loop-n l = (l.n ≤ length l.fn.tree) × Done l.fn.tree l.n l.rounds.items

abbrev pub decreases-loop-n : goal.decreases-loop-n
decreases-loop-n l = l.n
