use Rattle.std.proofs.Common.{◌≡◌, drop}
use Rattle.clu_object.specs.Holes.{are_named}
use Rattle.clu_object.proofs.holes.are_named.Given as goal

-- the holes that are left decide
abbrev pub invariant-loop-hole : goal.invariant-loop-hole
invariant-loop-hole l = are_named l.counts.uses l.counts.constants l.counts.types l.counts.words l.holes ≡ are_named l.counts.uses l.counts.constants l.counts.types l.counts.words (drop l.hole-index l.holes)
