use Rattle.clu_passes.proofs.HeadsMade.{heads_told, heads_whole}
use Rattle.clu_passes.proofs.heads_made.heads_specified.Goals as goal

pub returns-clause-told : goal.returns-clause-told
returns-clause-told c = heads_told

pub returns-clause-whole : goal.returns-clause-whole
returns-clause-whole c = heads_whole
