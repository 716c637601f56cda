use Rattle.clu_passes.proofs.UnmetNoted.{noted_has, noted_in}
use Rattle.clu_passes.proofs.asks_noted.unmet_noted.Goals as goal

pub returns : goal.returns
returns c = record {
  v18 = λ t h scope library refused items first lost file terms facts arena known its are from_first names types actuals rounds made found n here there. noted_has t h scope library refused items first lost file terms facts arena known its are from_first names types actuals rounds made found n here there;
  v20 = λ t h scope library refused items first lost file terms facts arena known its are from_first names types actuals rounds made found n here there. noted_in t h scope library refused items first lost file terms facts arena known its are from_first names types actuals rounds made found n here there;
}
