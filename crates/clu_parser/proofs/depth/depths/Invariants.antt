use Rattle.clu_parser.proofs.Deep.{IsDeepFrom}
use Rattle.clu_parser.proofs.depth.depths.Given as goal

abbrev pub invariant-nodes : goal.invariant-nodes
invariant-nodes l = IsDeepFrom l.tree l.n l.depths.items

abbrev pub decreases-nodes : goal.decreases-nodes
decreases-nodes l = l.n
