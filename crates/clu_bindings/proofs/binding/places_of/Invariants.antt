use Rattle.std.proofs.Common.{◌≡◌}
use Rattle.clu_bindings.specs.Bindings.{places_to}
use Rattle.clu_bindings.proofs.binding.places_of.Given as goal

abbrev pub invariant-loop-n : goal.invariant-loop-n
invariant-loop-n l = l.places.items ≡ places_to l.fn.tree l.n
