use Rattle.std.proofs.Common.{◌≡◌, ◌++◌, length, map}
use Rattle.clu_bindings.proofs.parameters.push_times.Given as goal

abbrev pub invariant-loop-names : goal.invariant-loop-names
invariant-loop-names l = l.all.items ++ map (λ name. l.declared) l.names ≡ l.initial.all.items ++ map (λ name. l.declared) l.initial.names

abbrev pub decreases-loop-names : goal.decreases-loop-names
decreases-loop-names l = length l.names
