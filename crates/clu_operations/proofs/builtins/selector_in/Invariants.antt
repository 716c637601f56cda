use Rattle.std.proofs.Common.{◌≡◌, length}
use Rattle.clu_operations.specs.Builtins.{selector_in}
use Rattle.clu_operations.proofs.builtins.selector_in.Given as goal

abbrev pub invariant-loop-name : goal.invariant-loop-name
invariant-loop-name l = selector_in l.name ≡ selector_in l.initial.name

abbrev pub decreases-loop-name : goal.decreases-loop-name
decreases-loop-name l = length l.name
