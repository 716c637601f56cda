use Rattle.clu_passes.proofs.Tables.{bound_is}
use Rattle.clu_passes.proofs.name_rules.names_of_node.Goals as goal

pub returns : goal.returns
returns c = bound_is
