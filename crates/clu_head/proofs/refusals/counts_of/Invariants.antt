use Rattle.std.proofs.Common.{◌≡◌, ◌≤◌}
use Rattle.clu_head.specs.Refused.{count_before, counts_to}
use Rattle.clu_head.proofs.refusals.counts_of.Given as goal

abbrev pub invariant-loop-n : goal.invariant-loop-n
invariant-loop-n l = record {
  counts : l.counts.items ≡ counts_to l.fn.refused l.n;
  count : l.count ≡ count_before l.fn.refused l.n;
  within : l.count ≤ l.n;
}
