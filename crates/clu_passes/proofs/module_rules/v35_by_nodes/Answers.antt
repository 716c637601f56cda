use Rattle.clu_passes.proofs.Modules.{v35_is}
use Rattle.clu_passes.proofs.module_rules.v35_by_nodes.Goals as goal

pub returns : goal.returns
returns c = v35_is
