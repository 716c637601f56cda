use Rattle.std.proofs.Common.{◌≡◌}
use Rattle.clu_bindings.specs.Reps.{begun_to}
use Rattle.clu_bindings.proofs.reps.begun_of.Given as goal

abbrev pub invariant-loop-place : goal.invariant-loop-place
invariant-loop-place l = l.begun.items ≡ begun_to l.fn.declared l.fn.nodes l.place
