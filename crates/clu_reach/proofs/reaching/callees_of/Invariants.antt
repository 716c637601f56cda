use Rattle.std.proofs.Common.{◌≡◌}
use Rattle.std.specs.Vec.Iter.{into_iter_items}
use Rattle.clu_reach.specs.Reach.{with_all}
use Rattle.clu_reach.specs.Walked.{instances_of}
use Rattle.clu_reach.proofs.reaching.callees_of.Given as goal

-- the uses that are left decide
abbrev pub invariant-loop-denoted : goal.invariant-loop-denoted
invariant-loop-denoted l = with_all l.members.keys (instances_of (into_iter_items l.denoted-iterator)) ≡ with_all l.fn.members.keys (instances_of l.fn.uses.items)
