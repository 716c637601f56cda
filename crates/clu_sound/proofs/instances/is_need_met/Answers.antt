use Rattle.clu_sound.proofs.Judging.{on_both}
use Rattle.clu_sound.proofs.instances.is_need_met.Goals as goal

pub is_met-requires-clause-need_in : goal.is_met-requires-clause-need_in
is_met-requires-clause-need_in c = rw c.in_ok-need.ensures c.requires.need_in

pub is_met-requires-clause-met_in : goal.is_met-requires-clause-met_in
is_met-requires-clause-met_in c = c.requires.holds.0

pub is_met-requires-clause-closed : goal.is_met-requires-clause-closed
is_met-requires-clause-closed c = c.requires.holds.1

pub returns-clause-met : goal.returns-clause-met
returns-clause-met c = rw (← c.in_ok-need.ensures) c.is_met.ensures.met

pub returns-clause-holds : goal.returns-clause-holds
returns-clause-holds c = on_both _ _ _ c.is_met.ensures.within c.is_met.ensures.closed
