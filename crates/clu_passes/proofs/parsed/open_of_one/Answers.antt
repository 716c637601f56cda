use Rattle.clu_passes.proofs.Within.{open_of_one}
use Rattle.clu_passes.proofs.parsed.open_of_one.Goals as goal

pub returns : goal.returns
returns c = λ t nodes rounds parsed are few n name own e at is. open_of_one t nodes rounds parsed are few n name e own at is
