use Rattle.std.proofs.Common.{drop}
use Rattle.rv_select.proofs.Cutting.{RangesSoFar}
use Rattle.rv_select.proofs.tables.ranges.Given as goal

abbrev pub invariant-loop-region : goal.invariant-loop-region
invariant-loop-region l = RangesSoFar l.ranges (drop l.region-index l.regions) l.regions
