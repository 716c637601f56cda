use Rattle.std.proofs.Common.{◌≡◌, ◌-◌, []}
use Rattle.clu_format.specs.Lists.{counted}
use Rattle.clu_format.specs.Fields.{number_read}
use Rattle.clu_object.proofs.read_holes.words_at.Given as goal

abbrev pub invariant-loop : goal.invariant-loop
invariant-loop l = counted (λ made. number_read 4) (l.count - l.counter) l.words.items l.rest ≡ counted (λ made. number_read 4) l.count [] l.bytes
