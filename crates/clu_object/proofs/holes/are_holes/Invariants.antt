use Rattle.std.proofs.Common.{◌≡◌, drop}
use Rattle.clu_object.specs.Holes.{are_holes}
use Rattle.clu_object.proofs.holes.are_holes.Given as goal

-- the holes that are left decide
abbrev pub invariant-loop-hole : goal.invariant-loop-hole
invariant-loop-hole l = are_holes l.code 0 l.holes ≡ are_holes l.code l.least (drop l.hole-index l.holes)
