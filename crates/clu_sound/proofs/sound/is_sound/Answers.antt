use Rattle.std.proofs.Common.{true≢false, sym}
use Rattle.clu_sound.proofs.Judging.{sound_then}
use Rattle.clu_sound.proofs.sound.is_sound.Goals as goal

pub are_demands_met-requires-clause-formed : goal.are_demands_met-requires-clause-formed
are_demands_met-requires-clause-formed c = c.are_formed.ensures.0 c.if-are_formed.true

pub returns-then-are_formed : goal.returns-then-are_formed
returns-then-are_formed c = sound_then c.args.specs.now c.args.spec.now (c.are_formed.ensures.0 c.if-are_formed.true) _ c.are_demands_met.ensures

pub returns-else-are_formed : goal.returns-else-are_formed
returns-else-are_formed c = (λ t. absurd (true≢false (sym t)), λ h. let found = c.are_formed.ensures.1 h.0 in let none = c.if-are_formed.false in cc)
