use Rattle.clu_settle.proofs.Made.{ok_more}
use Rattle.clu_settle.proofs.Found.{not_held}
use Rattle.clu_settle.proofs.type_values.made.Goals as goal

pub returns-then-holds-clause-lost : goal.returns-then-holds-clause-lost
returns-then-holds-clause-lost c = ok_more _ _ c.type_value.result c.type_value.ensures.there (λ v p is parts. p is)

pub returns-else-holds-clause-lost : goal.returns-else-holds-clause-lost
returns-else-holds-clause-lost c = λ is parts. not_held c.holds.result _ c.holds.ensures c.if-holds.false parts
