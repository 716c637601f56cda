use Rattle.std.proofs.Common.{◌≡◌, ◌-◌, []}
use Rattle.clu_format.specs.Lists.{counted}
use Rattle.clu_object.specs.ObjectReading.{use_read}
use Rattle.clu_object.proofs.read_items.more_uses_at.Given as goal

abbrev pub invariant-loop : goal.invariant-loop
invariant-loop l = counted (λ made. use_read) (l.count - l.counter) l.uses.items l.rest ≡ counted (λ made. use_read) l.count [] l.bytes
