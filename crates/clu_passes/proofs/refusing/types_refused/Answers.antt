use Rattle.clu_passes.proofs.FaultsFound as found
use Rattle.clu_passes.proofs.refusing.types_refused.Goals as goal

pub returns : goal.returns
returns c = λ t scope library refused of items bits n its inside there ordered agree. found.refused_by_bits t scope library refused of items bits n its inside there ordered agree
