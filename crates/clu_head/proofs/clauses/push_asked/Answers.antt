use Rattle.std.proofs.Common.{◌≡◌, ◌∙◌, true, false, List, sym, refl, ap}
use Rattle.std.specs.Prelude.{slice_get}
use Rattle.clu_tree.specs.declared.node.Node.{Node}
use Rattle.clu_tree.specs.declared.node.NodeKind.TheVariants as kind
use Rattle.clu_head.specs.There.{is_there}
use Rattle.clu_head.proofs.Wanting.{one_asked, not_asked}
use Rattle.clu_head.proofs.clauses.push_asked.Goals as goal

pub returns-in_ok-push_oper-clause-asked : goal.returns-in_ok-push_oper-clause-asked
returns-in_ok-push_oper-clause-asked c =
    let n = c.args.asking.oper in
    one_asked c.args.known c.args.types.now c.push_oper.new.types c.args.asking c.node-oper.result.now c.args.demands.now.items c.push_oper.new.demands.items
    (ap (λ (nodes : List Node). slice_get nodes n) (sym c.tree-then-is_at.ensures.same) ∙ c.node-oper.ensures.node)
    (ap (λ (nodes : List Node). is_there kind.Oper (slice_get nodes n)) (sym c.tree.ensures.same) ∙ sym c.is_at.ensures.exact ∙ c.if-is_at.true)
    c.in_ok-push_oper.ensures.named

pub returns-else-is_at-clause-asked : goal.returns-else-is_at-clause-asked
returns-else-is_at-clause-asked c =
    not_asked c.args.known c.args.types.now c.args.types.now c.args.asking c.args.demands.now.items c.args.demands.now.items
    (ap (λ (nodes : List Node). is_there kind.Oper (slice_get nodes c.args.asking.oper)) (sym c.tree.ensures.same) ∙ sym c.is_at.ensures.exact ∙ c.if-is_at.false) refl
