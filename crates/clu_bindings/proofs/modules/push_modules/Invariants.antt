use Rattle.std.proofs.Common.{take}
use Rattle.clu_bindings.specs.Modules.{own_in}
use Rattle.clu_bindings.proofs.Appending.{Adds}
use Rattle.clu_bindings.proofs.modules.push_modules.Given as goal

abbrev pub invariant-loop-n : goal.invariant-loop-n
invariant-loop-n l = Adds l.initial.modules l.modules (own_in l.types l.values l.syntax (take l.n-index l.nodes))
