use Rattle.clu_settle.proofs.Found.{not_held}
use Rattle.clu_head.proofs.known.interned.Goals as goal

pub returns-else-holds-clause-numbered : goal.returns-else-holds-clause-numbered
returns-else-holds-clause-numbered c = λ parts. not_held c.holds.result _ c.holds.ensures c.if-holds.false parts
