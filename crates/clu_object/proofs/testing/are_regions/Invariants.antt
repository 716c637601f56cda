use Rattle.std.proofs.Common.{◌≡◌, [], drop, length}
use Rattle.clu_object.specs.Nesting.{range_spans}
use Rattle.clu_object.specs.Objects.{are_regions}
use Rattle.clu_object.proofs.testing.are_regions.Given as goal

-- those that are left decide
abbrev pub invariant-loop-region : goal.invariant-loop-region
invariant-loop-region l = record {
  count : length l.ranges ≡ l.region-index;
  left : are_regions l.words [] l.regions ≡ are_regions l.words (range_spans l.ranges) (drop l.region-index l.regions);
}
