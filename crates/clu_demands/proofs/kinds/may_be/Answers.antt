use Rattle.clu_demands.proofs.Fitting.{is_not}
use Rattle.clu_demands.proofs.kinds.may_be.Goals as goal

pub returns-in-ConstParam : goal.returns-in-ConstParam
returns-in-ConstParam c = rw c.in-ConstParam.is (is_not c.is_same-in-ConstParam.result _ c.is_same-in-ConstParam.ensures)
