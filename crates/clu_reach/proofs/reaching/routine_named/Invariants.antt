use Rattle.std.proofs.Common.{◌≡◌, drop}
use Rattle.clu_reach.specs.Reach.{routine_in}
use Rattle.clu_reach.proofs.reaching.routine_named.Given as goal

-- the routines that are left decide
abbrev pub invariant-loop-routine : goal.invariant-loop-routine
invariant-loop-routine l = routine_in l.name (drop l.routine-index l.routine-items) ≡ routine_in l.name l.object.routines
