use Rattle.clu_passes.proofs.RaisedTold.{told_same}
use Rattle.clu_passes.proofs.raised.raises_told.Goals as goal

pub returns : goal.returns
returns c = λ t f parsed lost below told rows n here. told_same t f parsed lost below told rows n here
