use Rattle.std.proofs.Common.{◌≡◌, map}
use Rattle.clu_types.specs.Arena.{Grows}
use Rattle.clu_head.specs.Asking.{untyped}
use Rattle.clu_head.specs.Asked.{demands_at, demands_to, starts_to}
use Rattle.clu_head.specs.Wanted.{asked_to, AreAsked}
use Rattle.clu_head.proofs.clauses.push_all.Given as goal

abbrev pub invariant-loop-n : goal.invariant-loop-n
invariant-loop-n l = record {
  starts : l.starts.items ≡ starts_to (demands_at l.fn.known.syntax.now l.fn.known.rounds.now l.fn.known.counts.now l.fn.known.restricted.now) l.n;
  demands : map untyped l.demands.items ≡ demands_to (demands_at l.fn.known.syntax.now l.fn.known.rounds.now l.fn.known.counts.now l.fn.known.restricted.now) l.n;
  asked : AreAsked l.fn.known l.fn.types l.types (asked_to l.fn.known l.n) l.demands.items;
  kept : Grows l.fn.types l.types;
}
