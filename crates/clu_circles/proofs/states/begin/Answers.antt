use Rattle.clu_circles.proofs.states.begin.Goals as goal

pub returns-clause-begun : goal.returns-clause-begun
returns-clause-begun c = rw c.span_at-span.ensures c.in_ok-push.ensures.items
