use Rattle.clu_meaning.proofs.Levels.{more_levels}
use Rattle.clu_meaning.proofs.laws.more_levels.Goals as goal

pub returns : goal.returns
returns c = more_levels
