use Rattle.std.proofs.Common.{◌≡◌, ◌<◌, drop, length, vec_capacity}
use Rattle.std.specs.Prelude.{All}
use Rattle.clu_trace.specs.Walk.{noted}
use Rattle.clu_trace.proofs.live.add_entries.Given as goal

-- the numbers that are left lead to the same entries
abbrev pub invariant-loop-n : goal.invariant-loop-n
invariant-loop-n l = record {
  known : All (λ n. n < length l.map.names) l.entries.items;
  room : vec_capacity l.entries ≡ vec_capacity l.fn.entries;
  added : noted (vec_capacity l.fn.entries) (length l.map.names) l.fn.entries.items l.numbers
      ≡ noted (vec_capacity l.fn.entries) (length l.map.names) l.entries.items (drop l.n-index l.numbers);
}
