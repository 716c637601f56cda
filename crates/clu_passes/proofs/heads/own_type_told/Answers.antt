use Rattle.clu_passes.proofs.OwnTypes as own
use Rattle.clu_passes.proofs.heads.own_type_told.Goals as goal

pub returns : goal.returns
returns c = own.own_told
