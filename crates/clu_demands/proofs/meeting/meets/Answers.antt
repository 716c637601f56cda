use Rattle.std.proofs.Common.{map}
use Rattle.clu_types.specs.Arena.{types_of}
use Rattle.clu_specs.specs.Seen.{demand_seen}
use Rattle.clu_demands.proofs.Closing.{none_closed, none_below}
use Rattle.clu_demands.proofs.meeting.meets.Goals as goal

pub is_met-requires-clause-met_in : goal.is_met-requires-clause-met_in
is_met-requires-clause-met_in c = none_below _ _ c.new-met.ensures.empty

pub is_met-requires-clause-closed : goal.is_met-requires-clause-closed
is_met-requires-clause-closed c = none_closed _ _ _ _ c.new-met.ensures.empty

pub returns-clause-met : goal.returns-clause-met
returns-clause-met c = rw (← c.in_ok-op.ensures) c.is_met.ensures.met
