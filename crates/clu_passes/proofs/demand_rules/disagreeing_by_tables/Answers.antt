use Rattle.clu_passes.proofs.Disagreed.{disagrees_same}
use Rattle.clu_passes.proofs.demand_rules.disagreeing_by_tables.Goals as goal

pub returns : goal.returns
returns c = λ t scope library refused shaped tree are bits bad are_bad terms arena asked tell kinds n. disagrees_same t scope library refused shaped tree are bits bad are_bad terms arena asked tell kinds n
