use Rattle.clu_word_meaning.proofs.Lasting.{run_lasts}
use Rattle.clu_word_meaning.proofs.laws.more_turns.Goals as goal

pub returns : goal.returns
returns c = run_lasts
