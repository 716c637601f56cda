use Rattle.clu_passes.proofs.AskedTypes as asked
use Rattle.clu_passes.proofs.head_specs.opers_asked.Goals as goal

pub returns : goal.returns
returns c k scope library refused shaped tree are = asked.opers_told k scope library refused shaped tree (asked.opers_counted k scope library refused shaped tree are)
