use Rattle.std.proofs.Common.{◌≡◌, ◌++◌, map, take}
use Rattle.clu_names.specs.Denotes.{found}
use Rattle.clu_names.proofs.binding.bind_all.Given as goal

abbrev pub invariant-loop-name : goal.invariant-loop-name
invariant-loop-name l = l.bound.items ≡ l.initial.bound.items ++ map (λ name. found l.fn.declared name l.fn.n) (take l.name-index l.fn.names)
