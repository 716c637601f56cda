use Rattle.std.proofs.Common.{◌≡◌, ◌++◌, length}
use Rattle.clu_head.specs.Asking.{demanded_by}
use Rattle.clu_head.proofs.clauses.push_names.Given as goal

abbrev pub invariant-loop-names : goal.invariant-loop-names
invariant-loop-names l = l.demands.items ++ demanded_by l.asking l.wanted l.names ≡ l.initial.demands.items ++ demanded_by l.asking l.wanted l.initial.names

abbrev pub decreases-loop-names : goal.decreases-loop-names
decreases-loop-names l = length l.names
