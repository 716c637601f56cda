use Rattle.std.proofs.Common.{◌≡◌, length}
use Rattle.std.specs.List.{list_any}
use Rattle.clu_name_rules.specs.NameRules.{is_marked}
use Rattle.clu_name_rules.proofs.name_rules.has_circle.Given as goal

abbrev pub invariant-loop-bound : goal.invariant-loop-bound
invariant-loop-bound l = list_any (is_marked l.t.circular.now) l.bound ≡ list_any (is_marked l.t.circular.now) l.initial.bound

abbrev pub decreases-loop-bound : goal.decreases-loop-bound
decreases-loop-bound l = length l.bound
