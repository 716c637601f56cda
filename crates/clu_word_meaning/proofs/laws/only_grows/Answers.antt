use Rattle.clu_word_meaning.proofs.Lasting.{run_grows}
use Rattle.clu_word_meaning.proofs.laws.only_grows.Goals as goal

pub returns : goal.returns
returns c = run_grows
