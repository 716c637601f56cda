use Rattle.clu_settle.proofs.Inside.{graph_inside}
use Rattle.clu_settle.proofs.graph.graph_of.Goals as goal

pub returns-clause-inside : goal.returns-clause-inside
returns-clause-inside c = graph_inside c.args.tree.now c.args.meanings.now _ _ c.in_ok-push_all.ensures.tree c.in_ok-push_all.ensures.targets c.in_ok-push_all.ensures.spans
