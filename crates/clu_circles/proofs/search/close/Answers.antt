use Rattle.clu_circles.proofs.Marks.{not_new}
use Rattle.clu_circles.proofs.Closing.{closed, closed_on}
use Rattle.clu_circles.proofs.search.close.Goals as goal

pub returns-clause-search : goal.returns-clause-search
returns-clause-search c =
    rw (c.mark.ensures, c.clear.ensures.items, c.as_slice.ensures.value, c.in_ok-push.ensures.items)
    (closed c.args.targets.now c.args.spans.now c.args.states.now c.args.begun.now.items c.args.top c.args.found.place c.args.found.target c.requires.search c.requires.opens c.requires.inside (not_new c.args.states.now c.args.found.target c.requires.old))

pub returns-clause-on : goal.returns-clause-on
returns-clause-on c =
    rw (c.mark.ensures, c.as_slice.ensures.value, c.in_ok-push.ensures.items)
    (closed_on c.args.targets.now c.args.spans.now c.args.states.now c.args.begun.now.items c.args.top c.requires.search)
