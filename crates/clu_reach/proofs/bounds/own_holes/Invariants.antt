use Rattle.std.proofs.Common.{◌≡◌, drop, fold}
use Rattle.clu_reach.specs.Tables.{own_step}
use Rattle.clu_reach.proofs.bounds.own_holes.Given as goal

-- the holes that are left decide
abbrev pub invariant-loop-hole : goal.invariant-loop-hole
invariant-loop-hole l = fold own_step l.count (drop l.hole-index l.holes) ≡ fold own_step 0 l.holes
