use Rattle.std.proofs.Common.{◌≡◌, length}
use Rattle.clu_bindings.specs.Named.{kinds_fit}
use Rattle.clu_bindings.proofs.named.kinds_fit.Given as goal

abbrev pub invariant-loop-kinds : goal.invariant-loop-kinds
invariant-loop-kinds l = kinds_fit l.file l.types l.n l.kinds l.constants ≡ kinds_fit l.file l.types l.n l.initial.kinds l.initial.constants

abbrev pub decreases-loop-kinds : goal.decreases-loop-kinds
decreases-loop-kinds l = length l.kinds
