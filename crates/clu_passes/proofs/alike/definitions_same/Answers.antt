use Rattle.clu_passes.proofs.DefinitionsRight.{definitions_same}
use Rattle.clu_passes.proofs.alike.definitions_same.Goals as goal

pub returns : goal.returns
returns c = definitions_same
