use Rattle.std.proofs.Common.{◌≡◌, ◌∙◌, ◌<◌, ℕ, List, Option, Some, None, ap, arith, length, refl, slice_get, subst, sym}
use Rattle.std.proofs.lemmas.Option.{slice_get_within}
use Rattle.clu_base.specs.declared.rules.Rule.{Rule}
use Rattle.clu_tree.specs.declared.node.Node.{Node}
use Rattle.clu_type_rules.specs.Walking.{first_fault}
use Rattle.clu_check_mod.specs.Walks.{AreClosed, IsClosedNode, fault_at}
use Rattle.clu_check_mod.proofs.Closed.{closed_all, closed_more}
use Rattle.clu_check_mod.proofs.Finding.{none_next, walk_end, walk_here, walk_next}
use Rattle.clu_check_mod.proofs.walk.walk_nodes.Goals as goal

-- a node of the tree is one of the file
there : {nodes tree : List Node} {node : Node} (n : ℕ) → tree ≡ nodes → slice_get tree n ≡ Some node → n < length nodes
there n same at = slice_get_within _ n _ (sym (ap (λ (ns : List Node). slice_get ns n) same) ∙ at)

pub loop-n-init : goal.loop-n-init
loop-n-init c = (
  λ rest m less. absurd (omega (arith, less)),
  λ items values ascend. (refl, λ m less. absurd (omega (arith, less))),
)

pub loop-n-preserved : goal.loop-n-preserved
loop-n-preserved c = (
  λ rest.
      let this : IsClosedNode c.tree-tree.result.now c.loop-n.n = subst (λ (ns : List Node). IsClosedNode ns c.loop-n.n) (sym c.tree-tree.ensures.same) (c.fault_at.ensures.closed rest c.in_default.is) in
      closed_more c.tree-tree.result.now c.loop-n.n (c.loop-n.invariant.0 rest) this,
  λ items values ascend.
      let fault : ℕ → Option Rule = fault_at c.args.k.now c.args.bad.now items c.args.walk in
      let had = c.loop-n.invariant.1 items values ascend in
      let none : fault c.loop-n.n ≡ None = sym (c.fault_at.ensures.exact items values (ascend c.loop-n.n (there c.loop-n.n c.tree-tree.ensures.same c.node-node.ensures.node) had.1)) ∙ c.in_default.is in (
        walk_next fault c.tree-tree.result.now c.loop-n.n c.node-node.result.now c.node-node.ensures.node none had.0,
        none_next fault c.loop-n.n had.1 none,
      ),
)

pub returns-in-Some-clause-exact : goal.returns-in-Some-clause-exact
returns-in-Some-clause-exact c items values ascend =
    let fault : ℕ → Option Rule = fault_at c.args.k.now c.args.bad.now items c.args.walk in
    let had = c.loop-n.invariant.1 items values ascend in
    subst (λ (ns : List Node). first_fault fault 0 ns ≡ Some (record { rule = c.in-Some.rule; place = c.node-node.result.now.place })) c.tree-tree.ensures.same
    (walk_here fault c.tree-tree.result.now c.loop-n.n c.node-node.result.now c.in-Some.rule c.node-node.ensures.node
    (sym (c.fault_at.ensures.exact items values (ascend c.loop-n.n (there c.loop-n.n c.tree-tree.ensures.same c.node-node.ensures.node) had.1)) ∙ c.in-Some.is) had.0)

pub returns-clause-exact : goal.returns-clause-exact
returns-clause-exact c items values ascend =
    let fault : ℕ → Option Rule = fault_at c.args.k.now c.args.bad.now items c.args.walk in
    subst (λ (ns : List Node). first_fault fault 0 ns ≡ None) c.tree-tree.ensures.same
    (walk_end fault c.tree-tree.result.now c.loop-n.n (omega (arith, c.loop-n-test.false, c.len-n-end.ensures.len)) (c.loop-n.invariant.1 items values ascend).0)

pub returns-clause-closed : goal.returns-clause-closed
returns-clause-closed c rest =
    subst (λ (ns : List Node). AreClosed ns) c.tree-tree.ensures.same (closed_all c.tree-tree.result.now c.loop-n.n (omega (arith, c.loop-n-test.false, c.len-n-end.ensures.len)) (c.loop-n.invariant.0 rest))
