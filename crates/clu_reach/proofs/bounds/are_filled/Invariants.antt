use Rattle.std.proofs.Common.{◌≡◌, drop}
use Rattle.std.specs.List.{list_all}
use Rattle.clu_reach.specs.Tables.{is_filled}
use Rattle.clu_reach.proofs.bounds.are_filled.Given as goal

-- the holes that are left decide
abbrev pub invariant-loop-hole : goal.invariant-loop-hole
invariant-loop-hole l = list_all is_filled l.holes ≡ list_all is_filled (drop l.hole-index l.holes)
