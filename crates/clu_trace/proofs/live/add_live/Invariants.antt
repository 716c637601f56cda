use Rattle.std.proofs.Common.{◌≡◌, ◌-◌, ◌<◌, length, vec_capacity}
use Rattle.std.specs.Prelude.{All}
use Rattle.clu_trace.specs.Walk.{walk}
use Rattle.clu_trace.proofs.live.add_live.Given as goal

-- what is still to be walked leads to the same entries
abbrev pub invariant-loop-done : goal.invariant-loop-done
invariant-loop-done l = record {
  known : All (λ n. n < length l.map.names) l.entries.items;
  room : vec_capacity l.entries ≡ vec_capacity l.fn.entries;
  walked : walk (vec_capacity l.fn.entries) l.map l.bytes l.m.state (vec_capacity l.fn.entries) l.fn.entries.items l.fn.from
      ≡ walk (vec_capacity l.fn.entries) l.map l.bytes l.m.state (vec_capacity l.fn.entries - l.done) l.entries.items l.place;
}
