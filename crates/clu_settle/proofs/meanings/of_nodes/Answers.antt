use Rattle.clu_settle.proofs.Numbering.{meant_next}
use Rattle.clu_settle.proofs.meanings.of_nodes.Goals as goal

pub loop-n-preserved : goal.loop-n-preserved
loop-n-preserved c = meant_next c.args.tree.now c.args.names.now.declared.items c.args.declared.now c.loop-n.n c.of_node.result c.loop-n.all.items c.push.new.self.items c.loop-n.invariant c.of_node.ensures c.in_ok-push.ensures.items
