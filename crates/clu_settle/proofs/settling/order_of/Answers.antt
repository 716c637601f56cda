use Rattle.std.proofs.Common.{◌∙◌, List, subst}
use Rattle.clu_tree.specs.declared.node.Node.{Node}
use Rattle.clu_settle.specs.Lost.{IsOrder}
use Rattle.clu_settle.proofs.Made.{ok_more}
use Rattle.clu_settle.proofs.Passing.{once_distinct}
use Rattle.clu_settle.proofs.Lasting.{order_is}
use Rattle.clu_settle.proofs.settling.order_of.Goals as goal

pub returns-clause-distinct : goal.returns-clause-distinct
returns-clause-distinct c = ok_more _ _ c.find_circles.result c.find_circles.ensures.circles (λ found circles. once_distinct found.order.items circles.once)

pub returns-clause-order : goal.returns-clause-order
returns-clause-order c = ok_more _ _ c.find_circles.result c.find_circles.ensures.circles (λ found circles.
    subst (λ (nodes : List Node). IsOrder nodes c.args.meanings.now found.order.items) c.tree.ensures.same
    (order_is c.tree.result.now c.args.meanings.now c.as_slice.result.now c.as_slice-2.result.now (c.as_slice.ensures.value ∙ c.in_ok-graph.ensures.targets) (c.as_slice-2.ensures.value ∙ c.in_ok-graph.ensures.spans) found.order.items found.circular.items circles))
