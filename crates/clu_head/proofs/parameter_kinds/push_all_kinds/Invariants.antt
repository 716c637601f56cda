use Rattle.std.proofs.Common.{◌≡◌, ◌++◌, length}
use Rattle.clu_head.specs.ParameterKinds.{kinds_of}
use Rattle.clu_head.proofs.parameter_kinds.push_all_kinds.Given as goal

abbrev pub invariant-loop-parameters : goal.invariant-loop-parameters
invariant-loop-parameters l = l.kinds.items ++ kinds_of l.types l.values l.tree l.parameters ≡ l.initial.kinds.items ++ kinds_of l.types l.values l.tree l.initial.parameters

abbrev pub decreases-loop-parameters : goal.decreases-loop-parameters
decreases-loop-parameters l = length l.parameters
