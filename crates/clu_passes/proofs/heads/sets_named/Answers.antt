use Rattle.clu_passes.proofs.SetsNamed as sets
use Rattle.clu_passes.proofs.heads.sets_named.Goals as goal

pub returns : goal.returns
returns c = sets.sets_named
