use Rattle.clu_peep.proofs.Nesting.{MovedSoFar}
use Rattle.clu_peep.proofs.regions.moved_each.Given as goal

abbrev pub invariant-loop-region : goal.invariant-loop-region
invariant-loop-region l = MovedSoFar l.left l.regions l.region-index l.moved
