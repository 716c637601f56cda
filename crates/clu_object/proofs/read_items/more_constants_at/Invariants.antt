use Rattle.std.proofs.Common.{◌≡◌, ◌-◌, []}
use Rattle.clu_format.specs.Lists.{counted}
use Rattle.clu_object.specs.ObjectReading.{constant_read}
use Rattle.clu_object.proofs.read_items.more_constants_at.Given as goal

abbrev pub invariant-loop : goal.invariant-loop
invariant-loop l = counted (λ made. constant_read) (l.count - l.counter) l.constants.items l.rest ≡ counted (λ made. constant_read) l.count [] l.bytes
