use Rattle.clu_passes.proofs.OfParents.{have_parents}
use Rattle.clu_passes.proofs.parsed.have_parents.Goals as goal

pub returns : goal.returns
returns c = have_parents
