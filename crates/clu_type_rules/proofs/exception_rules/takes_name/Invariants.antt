use Rattle.std.proofs.Common.{◌≡◌, ℕ, length}
use Rattle.std.specs.List.{list_all}
use Rattle.clu_syntax.specs.Items.{Item}
use Rattle.clu_type_rules.specs.ExceptionRules.{takes, takes_name}
use Rattle.clu_type_rules.proofs.exception_rules.takes_name.Given as goal

abbrev pub invariant-loop-raises : goal.invariant-loop-raises
invariant-loop-raises l = (items : ℕ → Item) → list_all (takes l.k items l.taker l.e l.name) l.raises ≡ takes_name l.k (takes l.k items l.taker l.e) l.e l.name

abbrev pub decreases-loop-raises : goal.decreases-loop-raises
decreases-loop-raises l = length l.raises
