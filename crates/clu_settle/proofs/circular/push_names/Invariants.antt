use Rattle.std.proofs.Common.{◌≡◌, ◌++◌, map, take}
use Rattle.clu_settle.specs.Graph.{equate_of}
use Rattle.clu_settle.proofs.circular.push_names.Given as goal

abbrev pub invariant-loop-bound : goal.invariant-loop-bound
invariant-loop-bound l = l.targets.items ≡ l.initial.targets.items ++ map (equate_of l.fn.tree l.fn.declared) (take l.bound-index l.fn.names)
