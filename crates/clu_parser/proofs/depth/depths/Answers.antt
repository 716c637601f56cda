use Rattle.std.proofs.Common.{◌≡◌, ℕ, ◌+◌, ◌-◌, sym, subst, arith}
use Rattle.clu_parser.proofs.Deep.{IsDeepFrom, deep_more, deep_all}
use Rattle.clu_parser.proofs.depth.depths.Goals as goal

pub nodes-preserved : goal.nodes-preserved
nodes-preserved c =
    let back : c.nodes.n - 1 + 1 ≡ c.nodes.n = omega (arith, c.nodes-test.true) in
    let known = subst (λ (k : ℕ). IsDeepFrom c.args.tree.now k c.nodes.depths.items) (sym back) c.nodes.invariant in
    rw (c.set_all.ensures, c.as_slice-in-nodes.ensures, c.as_slice.ensures.value)
    (deep_more c.args.tree.now c.nodes.depths.items (c.nodes.n - 1) c.node.result.now c.len.ensures.tree c.node.ensures.node known)

pub returns : goal.returns
returns c =
    let none : c.nodes.n ≡ 0 = omega (arith, c.nodes-test.false) in
    deep_all c.args.tree.now c.nodes.depths.items (subst (λ (k : ℕ). IsDeepFrom c.args.tree.now k c.nodes.depths.items) none c.nodes.invariant)
