use Rattle.std.proofs.Common.{◌≡◌, map, take, Some}
use Rattle.clu_head.proofs.specs.all_kinds.Given as goal

abbrev pub invariant-loop-kind : goal.invariant-loop-kind
invariant-loop-kind l = map Some l.all.items ≡ take l.kind-index l.kinds
