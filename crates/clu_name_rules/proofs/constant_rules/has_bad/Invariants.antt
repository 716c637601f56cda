use Rattle.std.proofs.Common.{◌≡◌, length}
use Rattle.std.specs.List.{list_any}
use Rattle.clu_name_rules.specs.ConstantRules.{is_bad}
use Rattle.clu_name_rules.proofs.constant_rules.has_bad.Given as goal

abbrev pub invariant-loop-bounds : goal.invariant-loop-bounds
invariant-loop-bounds l = list_any (is_bad l.t l.bad) l.bounds ≡ list_any (is_bad l.t l.bad) l.initial.bounds

abbrev pub decreases-loop-bounds : goal.decreases-loop-bounds
decreases-loop-bounds l = length l.bounds
