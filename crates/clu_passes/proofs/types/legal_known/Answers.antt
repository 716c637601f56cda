use Rattle.clu_passes.proofs.LegalTypes.{legal_known}
use Rattle.clu_passes.proofs.types.legal_known.Goals as goal

pub returns : goal.returns
returns c = legal_known
