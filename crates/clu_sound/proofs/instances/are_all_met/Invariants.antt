use Rattle.clu_sound.proofs.PartsMet.{AreMetTo}
use Rattle.clu_sound.proofs.instances.are_all_met.Given as goal

abbrev pub invariant-loop-need : goal.invariant-loop-need
invariant-loop-need l = AreMetTo l.given l.specs l.fn.types l.asked l.types l.met.keys l.need-index
