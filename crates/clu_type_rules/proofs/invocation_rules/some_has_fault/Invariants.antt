use Rattle.std.proofs.Common.{◌≡◌, length}
use Rattle.std.specs.List.{list_any}
use Rattle.clu_type_rules.specs.InvocationRules.{has_fault, some_has_fault}
use Rattle.clu_type_rules.proofs.invocation_rules.some_has_fault.Given as goal

abbrev pub invariant-loop-invocations : goal.invariant-loop-invocations
invariant-loop-invocations l = list_any (has_fault l.k l.fault) l.invocations ≡ some_has_fault l.k l.fault l.n

abbrev pub decreases-loop-invocations : goal.decreases-loop-invocations
decreases-loop-invocations l = length l.invocations
