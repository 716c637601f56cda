use Rattle.clu_passes.proofs.ClusterRoutines.{have_routines}
use Rattle.clu_passes.proofs.parsed.have_routines.Goals as goal

pub returns : goal.returns
returns c = λ t f parsed are. have_routines f t parsed are
