use Rattle.std.specs.Vec.Iter.{into_iter_items}
use Rattle.clu_peep.specs.Left.{begins}
use Rattle.clu_peep.proofs.Passing.{SettlesSoFar}
use Rattle.clu_peep.proofs.settling.settled.Given as goal

abbrev pub invariant-loop-step : goal.invariant-loop-step
invariant-loop-step l = SettlesSoFar (begins l.regions) l.fn.code.items l.left.items l.is_passed l.number (into_iter_items l.step-iterator)
