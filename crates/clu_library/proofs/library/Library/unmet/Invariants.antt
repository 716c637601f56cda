use Rattle.clu_library.proofs.Amiss.{NoneTo}
use Rattle.clu_library.proofs.library.Library.unmet.Given as goal

abbrev pub invariant-loop-n : goal.invariant-loop-n
invariant-loop-n l = NoneTo l.self l.besides l.n
