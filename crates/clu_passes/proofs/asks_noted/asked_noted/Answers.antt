use Rattle.clu_passes.proofs.AsksNoted.{asked_noted}
use Rattle.clu_passes.proofs.asks_noted.asked_noted.Goals as goal

pub returns : goal.returns
returns c = λ t h scope library refused items first lost file terms facts arena known its are from_first names types actuals. asked_noted t h scope library refused items first lost file terms facts arena known its are from_first names types actuals
