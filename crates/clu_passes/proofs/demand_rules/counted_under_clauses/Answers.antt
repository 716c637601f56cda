use Rattle.clu_passes.proofs.CountedTold.{tells_counted}
use Rattle.clu_passes.proofs.demand_rules.counted_under_clauses.Goals as goal

pub returns : goal.returns
returns c = λ headed scope library refused types sets tells n. tells_counted headed scope library refused types sets tells n
