use Rattle.clu_circles.proofs.Ordered.{started, started_order, ended}
use Rattle.clu_circles.proofs.circles.all_visited.Goals as goal

pub visit_all-requires-clause-search : goal.visit_all-requires-clause-search
visit_all-requires-clause-search c = started c.args.targets.now c.args.spans.now c.args.states.now c.requires.new

pub visit_all-requires-clause-ordered : goal.visit_all-requires-clause-ordered
visit_all-requires-clause-ordered c = rw c.new-order.ensures.items (started_order c.args.targets.now c.args.spans.now c.args.states.now c.requires.new)

pub returns : goal.returns
returns c =
    ended c.args.targets.now c.args.spans.now c.visit_all.new.states c.visit_all.new.order.items c.in_ok-circular.circular.items
    c.in_ok-visit_all.ensures.search c.in_ok-visit_all.ensures.ordered c.in_ok-visit_all.ensures.seen c.in_ok-circular.ensures
