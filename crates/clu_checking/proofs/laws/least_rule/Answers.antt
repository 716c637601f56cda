use Rattle.clu_checking.proofs.First.{least_is_least}
use Rattle.clu_checking.proofs.laws.least_rule.Goals as goal

pub returns : goal.returns
returns c = least_is_least
