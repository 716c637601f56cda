use Rattle.std.proofs.Common.{◌≡◌, drop}
use Rattle.clu_bindings.specs.Bindings.{placed}
use Rattle.clu_bindings.proofs.binding.place_all.Given as goal

abbrev pub invariant-loop-at : goal.invariant-loop-at
invariant-loop-at l = placed l.places l.at (drop l.at l.fn.children) ≡ placed l.fn.places 0 l.fn.children
