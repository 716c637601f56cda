use Rattle.std.proofs.Common.{◌≡◌, ◌∙◌, ◌+◌, ◌≤◌, arith}
use Rattle.clu_head.specs.Refused.{count_before}
use Rattle.clu_head.proofs.Counting.{counted_set, counted_same, counts_next, counts_begin, none_counted}
use Rattle.clu_head.proofs.refusals.counts_of.Goals.{then-refused-n, else-refused-n}
use Rattle.clu_head.proofs.refusals.counts_of.Goals as goal

pub loop-n-init : goal.loop-n-init
loop-n-init c = record { counts = counts_begin c.args.refused.now c.in_ok-counts.counts.items c.in_ok-counts.ensures.items; count = none_counted c.args.refused.now; within = omega arith }

pub loop-n-preserved : goal.loop-n-preserved
loop-n-preserved c =
    let at : c.if-refused-n.count ≡ count_before c.args.refused.now (c.loop-n.n + 1) =
    elim c.if-refused-n.branch [
      | then-refused-n w ↦ w.count-is ∙ counted_set c.args.refused.now c.loop-n.n c.loop-n.count (omega (arith, c.loop-n-test.true)) w.if-refused-n.true c.loop-n.invariant.count
      | else-refused-n w ↦ w.count-is ∙ counted_same c.args.refused.now c.loop-n.n c.loop-n.count (omega (arith, c.loop-n-test.true)) w.if-refused-n.false c.loop-n.invariant.count
    ] in
    let more : c.if-refused-n.count ≤ c.loop-n.n + 1 =
    elim c.if-refused-n.branch [
      | then-refused-n w ↦ omega (arith, w.count-is, c.loop-n.invariant.within)
      | else-refused-n w ↦ omega (arith, w.count-is, c.loop-n.invariant.within)
    ] in
    record {
      counts = counts_next c.args.refused.now c.loop-n.n c.if-refused-n.count c.loop-n.counts.items c.push.new.self.items c.loop-n.invariant.counts at c.in_ok-push.ensures.items;
      count = at;
      within = more;
    }
