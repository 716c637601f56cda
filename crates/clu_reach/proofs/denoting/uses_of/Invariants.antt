use Rattle.clu_types.specs.Arena.{Grows}
use Rattle.clu_reach.proofs.denoting.uses_of.Given as goal

-- the arena only grew
abbrev pub invariant-loop-text : goal.invariant-loop-text
invariant-loop-text l = Grows l.fn.types l.types
