use Rattle.clu_types.proofs.Carrying.{grows_on}
use Rattle.clu_reach.proofs.Later.{need_here, needs_later}
use Rattle.clu_reach.proofs.denoting.are_met.Goals as goal

pub is_met-requires-clause-of_in : goal.is_met-requires-clause-of_in
is_met-requires-clause-of_in c = (need_here _ _ _ c.need-item.result c.need-item.is c.loop-need.invariant.1 c.loop-need-test.true).0

pub is_met-requires-clause-wanted_in : goal.is_met-requires-clause-wanted_in
is_met-requires-clause-wanted_in c = (need_here _ _ _ c.need-item.result c.need-item.is c.loop-need.invariant.1 c.loop-need-test.true).1

pub loop-need-preserved : goal.loop-need-preserved
loop-need-preserved c = (grows_on _ _ _ c.loop-need.invariant.0 c.in_ok-met.ensures.kept, needs_later _ _ c.in_ok-met.ensures.kept _ c.loop-need.invariant.1)
