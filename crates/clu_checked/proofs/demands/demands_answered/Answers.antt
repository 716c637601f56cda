use Rattle.clu_checked.proofs.DemandsRight.{disagrees_right, told}
use Rattle.clu_checked.proofs.demands.demands_answered.Goals as goal

pub returns-clause-told : goal.returns-clause-told
returns-clause-told c = told

pub returns-clause-disagrees : goal.returns-clause-disagrees
returns-clause-disagrees c = disagrees_right
