use Rattle.std.proofs.Common.{◌≡◌, ℕ, get_or}
use Rattle.clu_settle.specs.Parameters.{counted, numbers_to}
use Rattle.clu_settle.proofs.parameters.number_all.Given as goal

abbrev pub invariant-loop-place : goal.invariant-loop-place
invariant-loop-place l = record {
  numbers : l.numbers.items ≡ numbers_to l.fn.tree l.fn.rounds l.fn.declared l.place;
  counts : (u : ℕ) → get_or l.counts u 0 ≡ counted l.fn.tree l.fn.rounds l.fn.declared u l.place;
}
