use Rattle.clu_passes.proofs.MeaningsThere.{meanings_are}
use Rattle.clu_passes.proofs.alike.meanings_told.Goals as goal

pub returns : goal.returns
returns c = meanings_are
