use Rattle.std.proofs.Common.{◌≡◌, length}
use Rattle.clu_type_rules.specs.Included.{all_may_be}
use Rattle.clu_type_rules.proofs.invocation_rules.all_may_be.Given as goal

abbrev pub invariant-loop-given : goal.invariant-loop-given
invariant-loop-given l = all_may_be l.types l.given l.wanted ≡ all_may_be l.types l.initial.given l.initial.wanted

abbrev pub decreases-loop-given : goal.decreases-loop-given
decreases-loop-given l = length l.given
