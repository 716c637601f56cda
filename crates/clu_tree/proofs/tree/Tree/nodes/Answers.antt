use Rattle.std.proofs.Common.{refl, length, ap, arith}
use Rattle.clu_tree.proofs.Rows.{length-counts}
use Rattle.clu_tree.proofs.tree.Tree.nodes.Goals as goal

pub bounds-counts-n : goal.bounds-counts-n
bounds-counts-n c =
    omega (arith, ap length c.as_slice-counts.ensures.value, ap length c.self.invariant.counts_are, length-counts c.self.inside.nodes.items, ap length c.self.view_is)

pub returns : goal.returns
returns c = rw (c.as_slice-counts.ensures.value, c.self.invariant.counts_are, ← c.self.view_is) refl
