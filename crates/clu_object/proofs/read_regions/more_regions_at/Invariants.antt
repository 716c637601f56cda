use Rattle.std.proofs.Common.{◌≡◌, ◌-◌, [], length}
use Rattle.clu_format.specs.Lists.{counted}
use Rattle.clu_object.specs.Nesting.{spans, range_spans}
use Rattle.clu_object.specs.ObjectReading.{next_region_read}
use Rattle.clu_object.proofs.read_regions.more_regions_at.Given as goal

abbrev pub invariant-loop : goal.invariant-loop
invariant-loop l = record {
  count : length l.ranges ≡ l.counter;
  placed : range_spans l.ranges ≡ spans l.regions.items;
  so_far : counted (next_region_read l.words) (l.count - l.counter) l.regions.items l.rest ≡ counted (next_region_read l.words) l.count [] l.bytes;
}
