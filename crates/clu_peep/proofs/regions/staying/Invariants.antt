use Rattle.std.proofs.Common.{◌≡◌, map, take}
use Rattle.clu_peep.specs.Moved.{has_place}
use Rattle.clu_peep.proofs.regions.staying.Given as goal

abbrev pub invariant-loop-region : goal.invariant-loop-region
invariant-loop-region l = l.stays.items ≡ map (has_place l.left) (take l.region-index l.regions)
