use Rattle.std.proofs.Common.{length}
use Rattle.clu_types.specs.Narrower.{HasException, AreAmongThese}
use Rattle.clu_types.proofs.included.after.Given as goal

-- the wanted one is among those that are left if it is there
abbrev pub invariant-loop-many : goal.invariant-loop-many
invariant-loop-many l = (HasException l.wanted l.fn.many → HasException l.wanted l.many) × AreAmongThese l.many l.fn.many

abbrev pub decreases-loop-many : goal.decreases-loop-many
decreases-loop-many l = length l.many
