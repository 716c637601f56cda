use Rattle.std.proofs.Common.{◌≡◌, ◌-◌}
use Rattle.clu_format.specs.Lists.{counted}
use Rattle.clu_object.specs.ObjectReading.{routine_read}
use Rattle.clu_object.proofs.reading.routines_at.Given as goal

abbrev pub invariant-loop : goal.invariant-loop
invariant-loop l = counted (λ made. routine_read) (l.count - l.counter) l.routines.items l.rest ≡ counted (λ made. routine_read) l.count l.fn.routines.items l.bytes
