use Rattle.clu_sound.proofs.PartsMet.{holds_none}
use Rattle.clu_sound.proofs.visiting.are_met.Goals as goal

pub are_met_with-requires-clause-holds : goal.are_met_with-requires-clause-holds
are_met_with-requires-clause-holds c = holds_none c.args.given.now c.args.specs.now c.args.types.now _ c.new-met.ensures.empty
