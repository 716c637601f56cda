use Rattle.clu_passes.proofs.OwnNumbered as numbered
use Rattle.clu_passes.proofs.heads_made.own_numbered.Goals as goal

pub returns : goal.returns
returns c = λ nodes its few are. numbered.own_numbered nodes few its are
