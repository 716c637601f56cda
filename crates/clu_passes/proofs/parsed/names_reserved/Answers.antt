use Rattle.clu_passes.proofs.ReservedNames.{names_reserved}
use Rattle.clu_passes.proofs.parsed.names_reserved.Goals as goal

pub returns : goal.returns
returns c = λ bytes tokens nodes are. names_reserved bytes tokens are nodes
