use Rattle.clu_word_meaning.proofs.Stops.{stops}
use Rattle.clu_word_meaning.proofs.laws.stops_before.Goals as goal

pub returns : goal.returns
returns c = stops
