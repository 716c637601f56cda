use Rattle.std.proofs.Common.{◌≡◌}
use Rattle.std.specs.Str.{bytes_eq}
use Rattle.indexmap.specs.IndexMap.{get}
use Rattle.clu_names.specs.Denotes.{bound_to, starts_to}
use Rattle.clu_names.specs.Latest.{AreLocals}
use Rattle.clu_names.proofs.binding.walk.Given as goal

abbrev pub invariant-loop-n : goal.invariant-loop-n
invariant-loop-n l = record {
  bound : l.bound.items ≡ bound_to l.fn.tree l.fn.declared l.n;
  starts : l.starts.items ≡ starts_to l.fn.tree l.fn.declared l.n;
  locals : AreLocals l.fn.declared l.n 0 (get bytes_eq l.locals);
}
