use Rattle.clu_passes.proofs.ClustersRound.{of_kinds}
use Rattle.clu_passes.proofs.demand_rules.kinds_round.Goals as goal

pub returns : goal.returns
returns c = λ f tree are. of_kinds f tree are
