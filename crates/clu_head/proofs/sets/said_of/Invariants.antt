use Rattle.std.proofs.Common.{◌≡◌, map, take}
use Rattle.clu_head.specs.Sets.{said_at}
use Rattle.clu_head.proofs.sets.said_of.Given as goal

abbrev pub invariant-loop-one : goal.invariant-loop-one
invariant-loop-one l = l.all.items ≡ map (λ d. said_at l.tree l.names.declared.items d.node) (take l.one-index l.declared)
