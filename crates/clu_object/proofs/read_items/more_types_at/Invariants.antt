use Rattle.std.proofs.Common.{◌≡◌, ◌-◌, []}
use Rattle.clu_format.specs.Lists.{counted}
use Rattle.clu_object.specs.ObjectReading.{type_text_read}
use Rattle.clu_object.proofs.read_items.more_types_at.Given as goal

abbrev pub invariant-loop : goal.invariant-loop
invariant-loop l = counted (λ made. type_text_read) (l.count - l.counter) l.texts.items l.rest ≡ counted (λ made. type_text_read) l.count [] l.bytes
