use Rattle.clu_passes.proofs.TermsAscend.{components_of_node}
use Rattle.clu_passes.proofs.ascending.components_ascend.Goals as goal

pub returns : goal.returns
returns c = components_of_node
