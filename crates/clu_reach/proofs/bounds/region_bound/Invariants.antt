use Rattle.std.proofs.Common.{◌≡◌, drop, fold}
use Rattle.clu_reach.specs.Tables.{region_step}
use Rattle.clu_reach.proofs.bounds.region_bound.Given as goal

-- the regions that are left decide
abbrev pub invariant-loop-region : goal.invariant-loop-region
invariant-loop-region l = fold region_step l.bytes (drop l.region-index l.regions) ≡ fold region_step 24 l.regions
