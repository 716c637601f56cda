use Rattle.std.proofs.Common.{◌∙◌}
use Rattle.clu_settle.proofs.Graphs.{unfolded_next}
use Rattle.clu_settle.proofs.Unfolding.{starts_next}
use Rattle.clu_settle.proofs.circular.push_all.Goals as goal

pub loop-n-preserved : goal.loop-n-preserved
loop-n-preserved c = record {
  targets = unfolded_next c.args.tree.now c.args.names.now.declared.items c.loop-n.n c.loop-n.unfolded.targets.items c.push_node.new.targets.items c.loop-n.invariant.targets c.in_ok-push_node.ensures;
  starts = starts_next c.args.tree.now c.args.names.now.declared.items c.loop-n.n c.len.result c.loop-n.unfolded.targets.items c.loop-n.unfolded.starts.items c.push.new.self.items
      c.loop-n.invariant.starts c.loop-n.invariant.targets (c.len.ensures ∙ c.loop-n.unfolded.targets.ok.0) c.in_ok-push.ensures.items;
}
