use Rattle.clu_sound.proofs.PartsMet.{Visiting}
use Rattle.clu_sound.proofs.visiting.are_met_with.Given as goal

abbrev pub invariant-loop-n : goal.invariant-loop-n
invariant-loop-n l = Visiting l.given l.specs l.fn.types l.fn.ids.keys l.types l.ids.keys l.met.keys l.n
