use Rattle.std.proofs.Common.{◌≡◌, ◌-◌, [], length}
use Rattle.clu_specs.specs.Constants.{string_at}
use Rattle.clu_specs.proofs.constants.string_at.Given as goal

abbrev pub invariant-loop : goal.invariant-loop
invariant-loop l = string_at (length l.bytes - l.counter) l.made.items l.rest ≡ string_at (length l.bytes) [] l.bytes
