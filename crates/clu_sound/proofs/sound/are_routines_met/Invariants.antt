use Rattle.clu_sound.proofs.Judging.{AreRoutinesTo}
use Rattle.clu_sound.proofs.sound.are_routines_met.Given as goal

abbrev pub invariant-loop-op : goal.invariant-loop-op
invariant-loop-op l = AreRoutinesTo l.specs l.fn.types l.demands l.ops l.types l.op-index
