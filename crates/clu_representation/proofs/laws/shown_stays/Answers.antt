use Rattle.clu_representation.proofs.StaysShown.{at_on}
use Rattle.clu_representation.proofs.laws.shown_stays.Goals as goal

pub returns : goal.returns
returns c = at_on
