use Rattle.std.proofs.Common.{◌≡◌, ◌-◌, [], length}
use Rattle.clu_specs.specs.Reading.{several}
use Rattle.clu_specs.specs.SpecReading.{kinds_step, kinds_next}
use Rattle.clu_specs.proofs.read_kinds.kinds_at.Given as goal

abbrev pub invariant-loop : goal.invariant-loop
invariant-loop l =
    several kinds_step kinds_next (length l.bytes - l.counter) l.made.items l.rest ≡ several kinds_step kinds_next (length l.bytes) [] l.bytes
