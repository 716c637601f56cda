use Rattle.std.proofs.Common.{◌≡◌, ◌++◌, length}
use Rattle.clu_head.specs.Asking.{asked_by_restrictions}
use Rattle.clu_head.proofs.clauses.push_restrictions.Given as goal

abbrev pub invariant-loop-restrictions : goal.invariant-loop-restrictions
invariant-loop-restrictions l = l.all.items ++ asked_by_restrictions l.known.syntax.now l.known.rounds.now l.known.counts.now l.known.restricted.now l.restrictions ≡ l.initial.all.items ++ asked_by_restrictions l.known.syntax.now l.known.rounds.now l.known.counts.now l.known.restricted.now l.initial.restrictions

abbrev pub decreases-loop-restrictions : goal.decreases-loop-restrictions
decreases-loop-restrictions l = length l.restrictions
