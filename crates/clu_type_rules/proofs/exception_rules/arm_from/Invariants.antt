use Rattle.std.proofs.Common.{◌≡◌, length, Some}
use Rattle.clu_type_rules.specs.ExceptionRules.{arm_from}
use Rattle.clu_type_rules.proofs.exception_rules.arm_from.Given as goal

abbrev pub invariant-loop-guard : goal.invariant-loop-guard
invariant-loop-guard l = arm_from l.k (Some l.word) l.guard l.left ≡ arm_from l.k (Some l.word) l.initial.guard (length l.k.tables.file.rounds.now)

abbrev pub decreases-loop-guard : goal.decreases-loop-guard
decreases-loop-guard l = l.left
