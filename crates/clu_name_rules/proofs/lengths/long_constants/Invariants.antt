use Rattle.std.proofs.Common.{◌≡◌, map, take}
use Rattle.std.specs.Prelude.{nat_lt}
use Rattle.clu_name_rules.specs.Lengths.{constant_length}
use Rattle.clu_name_rules.proofs.lengths.long_constants.Given as goal

-- the constants so far
abbrev pub invariant-loop-place : goal.invariant-loop-place
invariant-loop-place l = l.long.items ≡ map (λ c. nat_lt 65536 (constant_length c)) (take l.place l.constants)
