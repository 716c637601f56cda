use Rattle.clu_passes.proofs.OwnPlaces.{v37_is}
use Rattle.clu_passes.proofs.name_rules.v37_by_tables.Goals as goal

pub returns : goal.returns
returns c = λ f shaped names are. v37_is f shaped names are
