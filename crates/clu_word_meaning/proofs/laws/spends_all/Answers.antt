use Rattle.clu_word_meaning.proofs.Turns.{run_spends}
use Rattle.clu_word_meaning.proofs.laws.spends_all.Goals as goal

pub returns : goal.returns
returns c = run_spends
