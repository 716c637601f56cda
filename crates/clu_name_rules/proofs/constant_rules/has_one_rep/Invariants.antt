use Rattle.std.proofs.Common.{◌≡◌, false, length}
use Rattle.clu_name_rules.specs.ConstantRules.{has_one_rep}
use Rattle.clu_name_rules.proofs.constant_rules.has_one_rep.Given as goal

abbrev pub invariant-loop-nodes : goal.invariant-loop-nodes
invariant-loop-nodes l = has_one_rep l.f l.known l.nodes ≡ has_one_rep l.f false l.initial.nodes

abbrev pub decreases-loop-nodes : goal.decreases-loop-nodes
decreases-loop-nodes l = length l.nodes
