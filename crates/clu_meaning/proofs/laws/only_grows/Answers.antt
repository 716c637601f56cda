use Rattle.clu_meaning.proofs.Levels.{only_grows}
use Rattle.clu_meaning.proofs.laws.only_grows.Goals as goal

pub returns : goal.returns
returns c = only_grows
