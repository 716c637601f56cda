use Rattle.std.proofs.Common.{◌∙◌}
use Rattle.clu_settle.proofs.Graphs.{targets_next, spans_next}
use Rattle.clu_settle.proofs.graph.push_all.Goals as goal

pub loop-n-preserved : goal.loop-n-preserved
loop-n-preserved c = record {
  targets = targets_next c.args.tree.now c.args.meanings.now c.loop-n.n c.loop-n.targets.items c.push_node.new.targets.items c.loop-n.invariant.targets c.in_ok-push_node.ensures;
  spans = spans_next c.args.tree.now c.args.meanings.now c.loop-n.n c.len-from.result c.len-to.result c.loop-n.targets.items c.push_node.new.targets.items c.loop-n.spans.items c.push.new.self.items
      c.loop-n.invariant.spans c.loop-n.invariant.targets c.in_ok-push_node.ensures (c.len-from.ensures ∙ c.loop-n.targets.ok.0) (c.len-to.ensures ∙ c.push_node.new.targets.ok.0) c.in_ok-push.ensures.items;
}
