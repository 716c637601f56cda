use Rattle.clu_passes.proofs.Meeting.{met_same}
use Rattle.clu_passes.proofs.demand_rules.met_by_told.Goals as goal

pub returns : goal.returns
returns c = λ clauses specified found tell a. met_same clauses specified found tell a
