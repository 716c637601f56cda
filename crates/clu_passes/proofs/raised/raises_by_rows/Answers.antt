use Rattle.clu_passes.proofs.RaisedByRow.{row_is}
use Rattle.clu_passes.proofs.raised.raises_by_rows.Goals as goal

pub returns : goal.returns
returns c = λ t f parsed n. row_is t f parsed n
