use Rattle.std.proofs.Common.{◌≡◌}
use Rattle.clu_settle.specs.Graph.{unfolded_to}
use Rattle.clu_settle.specs.Circular.{unfolded_starts}
use Rattle.clu_settle.proofs.circular.push_all.Given as goal

abbrev pub invariant-loop-n : goal.invariant-loop-n
invariant-loop-n l = record {
  targets : l.unfolded.targets.items ≡ unfolded_to l.fn.tree l.fn.names.declared.items l.n;
  starts : l.unfolded.starts.items ≡ unfolded_starts l.fn.tree l.fn.names.declared.items l.n;
}
