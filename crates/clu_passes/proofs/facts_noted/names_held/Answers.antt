use Rattle.clu_passes.proofs.NamesHeld.{name_known}
use Rattle.clu_passes.proofs.facts_noted.names_held.Goals as goal

pub returns : goal.returns
returns c = name_known
