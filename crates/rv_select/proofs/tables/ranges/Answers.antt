use Rattle.std.proofs.Common.{arith}
use Rattle.rv_select.proofs.Cutting.{ranges_whole}
use Rattle.rv_select.proofs.tables.ranges.Goals as goal

pub returns : goal.returns
returns c = ranges_whole c.loop-region.ranges c.args.regions.now c.loop-region.region-index (omega arith) c.loop-region.invariant
