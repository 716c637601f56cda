use Rattle.clu_checked.proofs.Noted.{all_handed_on}
use Rattle.clu_checked.proofs.handing.handed_on.Goals as goal

pub returns : goal.returns
returns c = all_handed_on
