use Rattle.clu_passes.proofs.Redeclared.{redefined_by_places}
use Rattle.clu_passes.proofs.parsed.redefined_by_places.Goals as goal

pub returns : goal.returns
returns c = λ t f parsed are same few table is with_variable n all once. redefined_by_places t f parsed are same few table is with_variable n all once
