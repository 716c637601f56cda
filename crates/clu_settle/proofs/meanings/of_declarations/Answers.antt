use Rattle.std.proofs.Common.{List, subst}
use Rattle.clu_tree.specs.declared.node.Node.{Node}
use Rattle.clu_settle.specs.Parameters.{AreNumbered}
use Rattle.clu_settle.proofs.Numbering.{declared_next}
use Rattle.clu_settle.proofs.meanings.of_declarations.Goals as goal

pub loop-place-preserved : goal.loop-place-preserved
loop-place-preserved c =
    declared_next c.args.syntax.now c.args.rounds.now c.args.declared.now c.loop-place.place c.declared_at.result c.loop-place.all.items c.push.new.self.items c.loop-place.invariant
    (c.declared_at.ensures c.args.rounds.now (subst (λ (nodes : List Node). AreNumbered nodes c.args.rounds.now c.args.declared.now c.in_ok-parameters.parameters) c.tree.ensures.same c.in_ok-parameters.ensures))
    c.in_ok-push.ensures.items
