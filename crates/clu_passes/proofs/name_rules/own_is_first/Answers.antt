use Rattle.clu_passes.proofs.Owns.{own_first}
use Rattle.clu_passes.proofs.name_rules.own_is_first.Goals as goal

pub returns : goal.returns
returns c = own_first
