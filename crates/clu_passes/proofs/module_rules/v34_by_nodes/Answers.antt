use Rattle.clu_passes.proofs.Modules.{v34_is}
use Rattle.clu_passes.proofs.module_rules.v34_by_nodes.Goals as goal

pub returns : goal.returns
returns c = v34_is
