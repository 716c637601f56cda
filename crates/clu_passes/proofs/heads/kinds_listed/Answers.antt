use Rattle.clu_passes.proofs.HeadKinds as head
use Rattle.clu_passes.proofs.heads.kinds_listed.Goals as goal

pub returns : goal.returns
returns c = head.kinds_listed
