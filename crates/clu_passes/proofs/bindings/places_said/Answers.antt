use Rattle.clu_passes.proofs.PlacesSaid.{places_said}
use Rattle.clu_passes.proofs.bindings.places_said.Goals as goal

pub returns : goal.returns
returns c = places_said
