use Rattle.clu_passes.proofs.RefusedFaults.{refused_faulty}
use Rattle.clu_passes.proofs.losing.refused_faulty.Goals as goal

pub returns : goal.returns
returns c = refused_faulty
