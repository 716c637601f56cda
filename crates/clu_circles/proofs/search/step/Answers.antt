use Rattle.std.proofs.Common.{◌≡◌, ◌<◌, length, arith}
use Rattle.clu_circles.proofs.Marks.{open_there}
use Rattle.clu_circles.proofs.Ordered.{top_inside, finished, finished_order, finished_fewer, finished_less, order_kept}
use Rattle.clu_circles.proofs.search.step.Goals as goal

pub span_at-span-requires : goal.span_at-span-requires
span_at-span-requires c = top_inside c.args.targets.now c.args.spans.now c.args.states.now c.args.begun.now.items c.args.top c.requires.search

pub finish-requires : goal.finish-requires
finish-requires c =
    let size : length c.args.states.now ≡ length c.args.spans.now = c.requires.search.size in
    let inside : c.args.top.number < length c.args.spans.now = top_inside c.args.targets.now c.args.spans.now c.args.states.now c.args.begun.now.items c.args.top c.requires.search in
    omega (arith, size, inside)

pub go_on-requires-clause-inside : goal.go_on-requires-clause-inside
go_on-requires-clause-inside c =
    c.requires.inside c.in-Some.found.place c.in-Some.found.target (open_there c.args.states.now c.args.targets.now c.in-Some.found.place c.in-Some.found.target c.in-Some.ensures.found).0

pub go_on-requires-clause-opens : goal.go_on-requires-clause-opens
go_on-requires-clause-opens c = record { span = c.span_at-span.result; its = c.span_at-span.ensures; opened = c.in-Some.ensures }

pub returns-in_ok-finish-in-None-clause-search : goal.returns-in_ok-finish-in-None-clause-search
returns-in_ok-finish-in-None-clause-search c = rw c.in_ok-finish-in-None.ensures.states (finished c.args.targets.now c.args.spans.now c.args.states.now c.args.begun.now.items c.args.top c.requires.search)

pub returns-in_ok-finish-in-None-clause-ordered : goal.returns-in_ok-finish-in-None-clause-ordered
returns-in_ok-finish-in-None-clause-ordered c =
    rw (c.in_ok-finish-in-None.ensures.states, c.in_ok-finish-in-None.ensures.order)
    (finished_order c.args.targets.now c.args.spans.now c.args.states.now c.args.begun.now.items c.args.top c.args.order.now.items c.span_at-span.result c.requires.search c.requires.ordered c.span_at-span.ensures c.in-None.ensures)

pub returns-in_ok-finish-in-None-clause-fewer : goal.returns-in_ok-finish-in-None-clause-fewer
returns-in_ok-finish-in-None-clause-fewer c = rw c.in_ok-finish-in-None.ensures.states (finished_fewer c.args.targets.now c.args.spans.now c.args.states.now c.args.top.number)

pub returns-in_ok-finish-in-None-clause-less : goal.returns-in_ok-finish-in-None-clause-less
returns-in_ok-finish-in-None-clause-less c = rw c.in_ok-finish-in-None.ensures.states (finished_less c.args.targets.now c.args.spans.now c.args.states.now c.args.begun.now.items c.args.top c.requires.search)

pub returns-in_ok-go_on-in-Some-clause-ordered : goal.returns-in_ok-go_on-in-Some-clause-ordered
returns-in_ok-go_on-in-Some-clause-ordered c = order_kept c.args.targets.now c.args.spans.now c.args.states.now c.go_on.new.states c.args.order.now.items c.requires.ordered c.in_ok-go_on-in-Some.ensures.on

pub returns-in_ok-go_on-in-Some-clause-fewer : goal.returns-in_ok-go_on-in-Some-clause-fewer
returns-in_ok-go_on-in-Some-clause-fewer c = c.in_ok-go_on-in-Some.ensures.on.fewer

pub returns-in_ok-go_on-in-Some-clause-less : goal.returns-in_ok-go_on-in-Some-clause-less
returns-in_ok-go_on-in-Some-clause-less c = c.in_ok-go_on-in-Some.ensures.on.less
