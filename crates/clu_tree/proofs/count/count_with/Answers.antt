use Rattle.std.proofs.Common.{◌<◌, ◌^◌, ℕ, length, get_or, ap, arith}
use Rattle.std.proofs.lemmas.List.Sums.{sum_by_more_le}
use Rattle.clu_tree.specs.Count.{count_with}
use Rattle.clu_tree.proofs.count.count_with.Goals as goal

pub overflow_add-count : goal.overflow_add-count
overflow_add-count c =
    let same = c.as_slice-child-items.ensures in
    let inside : c.loop-child.child-index < length c.args.node.now.children = omega (arith, ap length same) in
    let small : count_with c.args.counts.now c.args.node.now < 2 ^ 32 = c.requires.small in
    rw same
    (omega (arith, c.loop-child.invariant, small, sum_by_more_le (λ (k : ℕ). get_or c.args.counts.now k 0) c.args.node.now.children c.loop-child.child-index 0 inside))
