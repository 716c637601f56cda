use Rattle.std.proofs.Common.{◌≡◌, ◌-◌, []}
use Rattle.clu_format.specs.Lists.{counted}
use Rattle.clu_object.specs.ObjectReading.{next_hole_read, least_behind}
use Rattle.clu_object.proofs.read_holes.more_holes_at.Given as goal

abbrev pub invariant-loop : goal.invariant-loop
invariant-loop l = record {
  least : l.least ≡ least_behind 0 l.holes.items;
  so_far : counted (next_hole_read l.code l.ahead) (l.count - l.counter) l.holes.items l.rest ≡ counted (next_hole_read l.code l.ahead) l.count [] l.bytes;
}
