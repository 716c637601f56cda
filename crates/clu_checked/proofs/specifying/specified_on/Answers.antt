use Rattle.clu_checked.proofs.Specified.{all_specified}
use Rattle.clu_checked.proofs.specifying.specified_on.Goals as goal

pub returns : goal.returns
returns c = all_specified
