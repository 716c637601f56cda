use Rattle.std.proofs.Common.{◌≡◌, length}
use Rattle.clu_name_rules.specs.NameRules.{has_redefined}
use Rattle.clu_name_rules.proofs.name_rules.has_redefined.Given as goal

abbrev pub invariant-loop-bounds : goal.invariant-loop-bounds
invariant-loop-bounds l = has_redefined l.declared l.place l.bounds ≡ has_redefined l.declared l.own l.initial.bounds

abbrev pub decreases-loop-bounds : goal.decreases-loop-bounds
decreases-loop-bounds l = length l.bounds
