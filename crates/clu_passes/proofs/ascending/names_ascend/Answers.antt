use Rattle.clu_passes.proofs.TermsAscend.{components_up}
use Rattle.clu_passes.proofs.ascending.names_ascend.Goals as goal

pub returns : goal.returns
returns c = components_up
