use Rattle.std.proofs.Common.{◌<◌, ◌^◌, arith}
use Rattle.clu_handlers.specs.Cuts.{next_bound}
use Rattle.clu_handlers.proofs.Cutting.{cut_start, cut_next, cuts_whole, next_above}
use Rattle.clu_handlers.proofs.cuts.cuts_of.Goals as goal

pub loop-from-init : goal.loop-from-init
loop-from-init c = rw c.new-cuts.ensures.items (cut_start c.args.regions.now)

pub loop-from-smaller : goal.loop-from-smaller
loop-from-smaller c =
    let above : c.loop-from.from < next_bound c.args.regions.now c.loop-from.from = next_above c.args.regions.now (2 ^ 32) c.loop-from.from c.loop-from-test.true in
    omega (arith, c.next_bound-from.ensures, above, c.loop-from-test.true)

pub loop-from-preserved : goal.loop-from-preserved
loop-from-preserved c = rw (c.in_ok-push.ensures.items, c.next_bound-from.ensures)
    (cut_next c.args.regions.now c.loop-from.cuts.items (record { from = c.loop-from.from; region = c.innermost-region.result }) c.innermost-region.ensures c.loop-from-test.true c.loop-from.invariant)

pub returns : goal.returns
returns c = cuts_whole c.args.regions.now c.loop-from.cuts.items c.loop-from.from c.loop-from.invariant c.loop-from-test.false
