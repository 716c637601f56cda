use Rattle.std.specs.Vec.Iter.{into_iter_items}
use Rattle.clu_demands.proofs.Lists.{Adding}
use Rattle.clu_demands.proofs.meeting.add_all.Given as goal

abbrev pub invariant-loop-need : goal.invariant-loop-need
invariant-loop-need l = Adding l.fn.met.keys l.fn.asked (into_iter_items l.need-iterator) l.met.keys
