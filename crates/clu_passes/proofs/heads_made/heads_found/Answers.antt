use Rattle.clu_passes.proofs.HeadsFound as found
use Rattle.clu_passes.proofs.heads_made.heads_found.Goals as goal

pub returns : goal.returns
returns c = found.heads_found
