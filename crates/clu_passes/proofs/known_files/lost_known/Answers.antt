use Rattle.clu_passes.proofs.InsideTold.{kept_there, wanted_there}
use Rattle.clu_passes.proofs.known_files.lost_known.Goals as goal

pub returns-clause-wanted : goal.returns-clause-wanted
returns-clause-wanted c = λ t h its library refused is. wanted_there t h its library refused is

pub returns-clause-kept : goal.returns-clause-kept
returns-clause-kept c = λ t h its library refused is n less fine. kept_there t h its library refused is n less fine
