use Rattle.std.proofs.Common.{◌≡◌, ℕ, length}
use Rattle.clu_syntax.specs.Items.{Item}
use Rattle.clu_type_rules.specs.ExceptionRules.{takes, takes_all}
use Rattle.clu_type_rules.proofs.exception_rules.takes_all.Given as goal

abbrev pub invariant-loop-names : goal.invariant-loop-names
invariant-loop-names l = (items : ℕ → Item) → takes_all l.k (takes l.k items l.taker l.e) l.e l.names ≡ takes_all l.k (takes l.k items l.taker l.e) l.e l.initial.names

abbrev pub decreases-loop-names : goal.decreases-loop-names
decreases-loop-names l = length l.names
