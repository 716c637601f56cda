use Rattle.std.proofs.Common.{◌≡◌, take}
use Rattle.clu_object.proofs.copy.copy_regions.Given as goal

abbrev pub invariant-loop-region : goal.invariant-loop-region
invariant-loop-region l = l.copied.items ≡ take l.region-index l.regions
