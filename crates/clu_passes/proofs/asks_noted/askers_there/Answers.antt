use Rattle.clu_passes.proofs.AsksNoted.{askers_there}
use Rattle.clu_passes.proofs.asks_noted.askers_there.Goals as goal

pub returns : goal.returns
returns c = λ t h scope library refused items first lost file terms facts arena known n. askers_there t h scope library refused items first lost file terms facts arena known n
