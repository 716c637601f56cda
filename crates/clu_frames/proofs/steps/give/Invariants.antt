use Rattle.std.proofs.Common.{map}
use Rattle.std.specs.Vec.Iter.{into_iter_items}
use Rattle.clu_frames.specs.Regions.{added_of}
use Rattle.clu_frames.proofs.Giving.{Given}
use Rattle.clu_frames.proofs.steps.give.Given as goal

abbrev pub invariant-loop-region : goal.invariant-loop-region
invariant-loop-region g l = Given (map added_of l.fn.regions.items) (g.B.RegionBuilder.regions l.builder) (map added_of (into_iter_items l.region-iterator))
