use Rattle.std.proofs.Common.{length}
use Rattle.clu_peep.proofs.Passing.{PutsSoFar}
use Rattle.clu_peep.proofs.settling.put.Given as goal

abbrev pub invariant-last : goal.invariant-last
invariant-last l = PutsSoFar l.fn.left.items l.fn.place l.left.items l.place

abbrev pub decreases-last : goal.decreases-last
decreases-last l = length l.left.items
