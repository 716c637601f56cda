use Rattle.std.proofs.Common.{◌≡◌}
use Rattle.clu_settle.specs.Graph.{targets_to, spans_to}
use Rattle.clu_settle.proofs.graph.push_all.Given as goal

abbrev pub invariant-loop-n : goal.invariant-loop-n
invariant-loop-n l = record {
  targets : l.targets.items ≡ targets_to l.fn.tree l.fn.meanings l.n;
  spans : l.spans.items ≡ spans_to l.fn.tree l.fn.meanings l.n;
}
