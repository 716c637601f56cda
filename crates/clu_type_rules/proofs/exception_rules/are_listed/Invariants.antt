use Rattle.std.proofs.Common.{◌≡◌, length}
use Rattle.std.specs.List.{list_all}
use Rattle.clu_type_rules.specs.ExceptionRules.{is_listed}
use Rattle.clu_type_rules.proofs.exception_rules.are_listed.Given as goal

abbrev pub invariant-loop-names : goal.invariant-loop-names
invariant-loop-names l = list_all (is_listed l.k l.n) l.names ≡ list_all (is_listed l.k l.n) l.initial.names

abbrev pub decreases-loop-names : goal.decreases-loop-names
decreases-loop-names l = length l.names
