use Rattle.std.proofs.Common.{◌≡◌, length}
use Rattle.std.specs.List.{list_any}
use Rattle.clu_name_rules.specs.Closed.{is_long}
use Rattle.clu_name_rules.proofs.name_rules.has_long.Given as goal

abbrev pub invariant-loop-names : goal.invariant-loop-names
invariant-loop-names l = list_any is_long l.names ≡ list_any is_long l.initial.names

abbrev pub decreases-loop-names : goal.decreases-loop-names
decreases-loop-names l = length l.names
