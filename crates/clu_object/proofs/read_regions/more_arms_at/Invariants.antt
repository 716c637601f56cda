use Rattle.std.proofs.Common.{◌≡◌, ◌-◌, []}
use Rattle.clu_format.specs.Lists.{counted}
use Rattle.clu_object.specs.ObjectReading.{arm_read}
use Rattle.clu_object.proofs.read_regions.more_arms_at.Given as goal

abbrev pub invariant-loop : goal.invariant-loop
invariant-loop l = counted (λ made. arm_read l.words) (l.count - l.counter) l.arms.items l.rest ≡ counted (λ made. arm_read l.words) l.count [] l.bytes
