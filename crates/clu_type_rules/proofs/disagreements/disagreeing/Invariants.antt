use Rattle.std.specs.Prelude.{◌≡◌, false, replicate}
use Rattle.clu_type_rules.specs.Disagreeing.{with_clauses}
use Rattle.clu_type_rules.proofs.disagreements.disagreeing.Given as goal

abbrev pub invariant-loop-n : goal.invariant-loop-n
invariant-loop-n l = l.disagrees.items ≡ with_clauses l.asked l.n (replicate l.nodes false)
