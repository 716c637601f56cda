use Rattle.clu_settle.proofs.Numbers.{too_large}
use Rattle.clu_settle.proofs.literals.number.Goals as goal

pub returns-in-None : goal.returns-in-None
returns-in-None c = too_large c.digits.number c.digits.digits.now _ _ c.in-len1-up.len_at_least c.digits.invariant c.in-None.ensures
