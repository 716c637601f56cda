use Rattle.std.proofs.Common.{◌≡◌, true, false, rules}
use Rattle.std.specs.Prelude.{slice_get}
use Rattle.clu_circles.specs.Search.{is_new}
use Rattle.clu_circles.proofs.Places.{there}
use Rattle.clu_circles.proofs.Marks.{as_new, not_new, begun_seen, begun_here}
use Rattle.clu_circles.proofs.Entering.{begins}
use Rattle.clu_circles.proofs.Ordered.{order_begun}
use Rattle.clu_circles.proofs.search.visit.Goals as goal

pub begin-requires-clause-size : goal.begin-requires-clause-size
begin-requires-clause-size c = c.requires.search.size

pub run-requires-clause-search : goal.run-requires-clause-search
run-requires-clause-search c =
    let new : is_new (slice_get c.args.states.now c.args.number) ≡ true = search rules in
    let span = there c.args.spans.now c.args.number c.requires.number in
    rw (c.in_ok-begin.ensures.states, c.in_ok-begin.ensures.begun, c.requires.none)
    (begins c.args.targets.now c.args.spans.now c.args.states.now c.args.number span.0 c.requires.search (as_new c.args.states.now c.args.number new) span.1)

pub run-requires-clause-ordered : goal.run-requires-clause-ordered
run-requires-clause-ordered c =
    let new : is_new (slice_get c.args.states.now c.args.number) ≡ true = search rules in
    rw c.in_ok-begin.ensures.states
    (order_begun c.args.targets.now c.args.spans.now c.args.states.now c.args.number c.args.order.now.items (as_new c.args.states.now c.args.number new) c.requires.ordered)

pub returns-in_ok-run-clause-fewer : goal.returns-in_ok-run-clause-fewer
returns-in_ok-run-clause-fewer c = λ k e. begun_seen c.args.states.now c.args.number k (rw c.in_ok-begin.ensures.states at (c.in_ok-run.ensures.fewer k e))

pub returns-in_ok-run-clause-seen : goal.returns-in_ok-run-clause-seen
returns-in_ok-run-clause-seen c = λ e.
    let new : is_new (slice_get c.args.states.now c.args.number) ≡ true = search rules in
    begun_here c.args.states.now c.args.number (as_new c.args.states.now c.args.number new) (rw c.in_ok-begin.ensures.states at (c.in_ok-run.ensures.fewer c.args.number e))

pub returns-else-is_new-clause-seen : goal.returns-else-is_new-clause-seen
returns-else-is_new-clause-seen c =
    let old : is_new (slice_get c.args.states.now c.args.number) ≡ false = search rules in
    not_new c.args.states.now c.args.number old
