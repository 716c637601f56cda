use Rattle.std.proofs.Common.{◌≡◌, length}
use Rattle.clu_name_rules.specs.NameRules.{has_unknown}
use Rattle.clu_name_rules.proofs.name_rules.has_unknown.Given as goal

abbrev pub invariant-loop-names : goal.invariant-loop-names
invariant-loop-names l = has_unknown l.names l.bounds l.meanings ≡ has_unknown l.initial.names l.initial.bounds l.initial.meanings

abbrev pub decreases-loop-names : goal.decreases-loop-names
decreases-loop-names l = length l.names
