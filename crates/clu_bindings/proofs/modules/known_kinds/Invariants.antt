use Rattle.std.proofs.Common.{◌≡◌, map, take, Some}
use Rattle.clu_bindings.proofs.modules.known_kinds.Given as goal

abbrev pub invariant-loop-kind : goal.invariant-loop-kind
invariant-loop-kind l = l.known.items ≡ map (λ k. Some k) (take l.kind-index l.fn.kinds)
