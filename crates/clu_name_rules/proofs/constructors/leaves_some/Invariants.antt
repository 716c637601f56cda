use Rattle.std.proofs.Common.{◌≡◌, length, slice_get}
use Rattle.clu_settle.specs.Names.{names_of}
use Rattle.clu_name_rules.specs.Components.{leaves_some}
use Rattle.clu_name_rules.proofs.constructors.leaves_some.Given as goal

abbrev pub invariant-loop-components : goal.invariant-loop-components
invariant-loop-components l = leaves_some (λ c. names_of (slice_get l.f.syntax.now c)) l.left l.components ≡ leaves_some (λ c. names_of (slice_get l.f.syntax.now c)) l.many l.initial.components

abbrev pub decreases-loop-components : goal.decreases-loop-components
decreases-loop-components l = length l.components
