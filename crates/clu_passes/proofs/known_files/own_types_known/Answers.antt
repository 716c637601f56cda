use Rattle.clu_passes.proofs.InsideTold.{own_there, represented_there}
use Rattle.clu_passes.proofs.known_files.own_types_known.Goals as goal

pub returns-clause-own : goal.returns-clause-own
returns-clause-own c = λ t h its library refused is terms grows n. own_there t h its library refused is terms grows n

pub returns-clause-represented : goal.returns-clause-represented
returns-clause-represented c = λ t h its library refused is terms grows n less fine. represented_there t h its library refused is terms grows n less fine
