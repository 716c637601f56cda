use Rattle.clu_passes.proofs.SetClauses.{in_sets}
use Rattle.clu_passes.proofs.demand_rules.sets_clauses.Goals as goal

pub returns : goal.returns
returns c = λ headed shaped order is_tree are. in_sets headed shaped order is_tree are
