use Rattle.std.proofs.Common.{◌≡◌, map, take}
use Rattle.std.specs.Prelude.{nat_lt}
use Rattle.clu_name_rules.proofs.lengths.are_long.Given as goal

abbrev pub invariant-loop-length : goal.invariant-loop-length
invariant-loop-length l = l.long.items ≡ map (nat_lt 65536) (take l.length-index l.lengths)
