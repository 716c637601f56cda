use Rattle.clu_meaning.proofs.Levels.{more_turns}
use Rattle.clu_meaning.proofs.laws.more_turns.Goals as goal

pub returns : goal.returns
returns c = more_turns
