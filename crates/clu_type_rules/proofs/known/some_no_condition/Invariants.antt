use Rattle.std.proofs.Common.{◌≡◌, length}
use Rattle.std.specs.List.{list_any}
use Rattle.clu_type_rules.specs.StatementRules.{is_no_condition, some_no_condition}
use Rattle.clu_type_rules.proofs.known.some_no_condition.Given as goal

abbrev pub invariant-loop-children : goal.invariant-loop-children
invariant-loop-children l = list_any (is_no_condition l.k) l.children ≡ some_no_condition l.k l.n

abbrev pub decreases-loop-children : goal.decreases-loop-children
decreases-loop-children l = length l.children
