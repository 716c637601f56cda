use Rattle.clu_head.proofs.Owning.{own_found}
use Rattle.clu_head.proofs.parameter_kinds.own_type.Goals as goal

pub returns-clause-own : goal.returns-clause-own
returns-clause-own c = own_found _ _ c.interned.ensures.kept _ _ _ _ _ c.in_ok-name.ensures c.in_ok-actuals.ensures.own c.in_ok-found.ensures.numbered
