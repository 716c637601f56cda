use Rattle.std.proofs.Common.{◌≡◌, ◌++◌, take, Some}
use Rattle.clu_names.specs.Scopes.{declared_as}
use Rattle.clu_names.proofs.declaring.declare.Given as goal

abbrev pub invariant-loop-name : goal.invariant-loop-name
invariant-loop-name l = l.list.items ≡ l.initial.list.items ++ declared_as l.fn.n l.fn.unit (Some (l.from, l.to)) (take l.name-index l.fn.names)
