use Rattle.std.proofs.Common.{take}
use Rattle.clu_bindings.specs.Modules.{kept_in}
use Rattle.clu_bindings.proofs.Appending.{Adds}
use Rattle.clu_bindings.proofs.modules.push_library.Given as goal

abbrev pub invariant-loop-n : goal.invariant-loop-n
invariant-loop-n l = Adds l.initial.modules l.modules (kept_in (take l.n l.fn.library))
