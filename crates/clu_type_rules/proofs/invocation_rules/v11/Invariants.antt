use Rattle.std.proofs.Common.{◌≡◌, length}
use Rattle.std.specs.List.{list_any}
use Rattle.clu_type_rules.specs.InvocationRules.{is_missing, lacks_operation}
use Rattle.clu_type_rules.proofs.invocation_rules.v11.Given as goal

abbrev pub invariant-loop-operations : goal.invariant-loop-operations
invariant-loop-operations l = list_any is_missing l.operations ≡ lacks_operation l.k l.n

abbrev pub decreases-loop-operations : goal.decreases-loop-operations
decreases-loop-operations l = length l.operations
