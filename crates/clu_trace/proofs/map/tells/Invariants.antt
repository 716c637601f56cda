use Rattle.std.proofs.Common.{◌≡◌, drop}
use Rattle.std.specs.Prelude.{nat_lt}
use Rattle.std.specs.List.{list_all}
use Rattle.clu_trace.proofs.map.tells.Given as goal

-- the entries that are left decide
abbrev pub invariant-loop-n : goal.invariant-loop-n
invariant-loop-n l = list_all (λ n. nat_lt n l.names) l.entries ≡ list_all (λ n. nat_lt n l.names) (drop l.n-index l.entries)
