use Rattle.clu_types.specs.Arena.{Grows}
use Rattle.clu_reach.proofs.parameters.carried.Given as goal

-- the arena only grew
abbrev pub invariant-loop-actual : goal.invariant-loop-actual
invariant-loop-actual l = Grows l.fn.types l.types
