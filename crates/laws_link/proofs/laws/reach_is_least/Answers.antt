use Rattle.laws_link.proofs.Least.{reached_least}
use Rattle.laws_link.proofs.laws.reach_is_least.Goals as goal

pub returns : goal.returns
returns c = λ made library start us fates r i u e. reached_least made library start us fates r i u e
