use Rattle.std.proofs.Common.{true≢false, sym}
use Rattle.clu_sound.proofs.instances.are_demands_met.Goals as goal

pub are_whole_met-requires-clause-demands_in : goal.are_whole_met-requires-clause-demands_in
are_whole_met-requires-clause-demands_in c = c.holds_demands.ensures.0 c.if-holds_demands.true

pub returns-else-holds_demands-clause-met : goal.returns-else-holds_demands-clause-met
returns-else-holds_demands-clause-met c = (λ t. absurd (true≢false (sym t)), λ h. let found = c.holds_demands.ensures.1 h.0 in let none = c.if-holds_demands.false in cc)
