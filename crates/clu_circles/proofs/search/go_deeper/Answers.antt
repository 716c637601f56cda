use Rattle.clu_circles.proofs.Places.{there}
use Rattle.clu_circles.proofs.Marks.{as_new}
use Rattle.clu_circles.proofs.Entering.{deeper, deeper_on}
use Rattle.clu_circles.proofs.search.go_deeper.Goals as goal

pub begin-requires-clause-size : goal.begin-requires-clause-size
begin-requires-clause-size c = c.requires.search.size

pub returns-clause-search : goal.returns-clause-search
returns-clause-search c =
    let span = there c.args.spans.now c.args.found.target c.requires.inside in
    rw (c.in_ok-begin.ensures.states, c.in_ok-begin.ensures.begun, c.in_ok-push.ensures.items)
    (deeper c.args.targets.now c.args.spans.now c.args.states.now c.args.begun.now.items c.args.top c.args.found.place c.args.found.target span.0 c.requires.search c.requires.opens (as_new c.args.states.now c.args.found.target c.requires.new) span.1)

pub returns-clause-on : goal.returns-clause-on
returns-clause-on c = rw c.in_ok-begin.ensures.states (deeper_on c.args.targets.now c.args.spans.now c.args.states.now c.args.found.target (as_new c.args.states.now c.args.found.target c.requires.new))
