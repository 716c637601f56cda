use Rattle.std.proofs.Common.{◌≡◌, ◌++◌, map, take, Some}
use Rattle.clu_settle.proofs.graph.push_children.Given as goal

abbrev pub invariant-loop-child : goal.invariant-loop-child
invariant-loop-child l = l.targets.items ≡ l.initial.targets.items ++ map Some (take l.child-index l.fn.children)
