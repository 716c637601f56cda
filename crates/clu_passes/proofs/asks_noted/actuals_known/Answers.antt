use Rattle.clu_passes.proofs.ActualsKnown.{actuals_known}
use Rattle.clu_passes.proofs.asks_noted.actuals_known.Goals as goal

pub returns : goal.returns
returns c = actuals_known
