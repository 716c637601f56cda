use Rattle.clu_checking.proofs.First.{first_is_first}
use Rattle.clu_checking.proofs.laws.first_node.Goals as goal

pub returns : goal.returns
returns c = first_is_first
