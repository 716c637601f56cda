use Rattle.clu_passes.proofs.NodesNoted.{types_told}
use Rattle.clu_passes.proofs.facts_noted.types_noted.Goals as goal

pub returns : goal.returns
returns c = λ t h scope library refused items first lost known. types_told t h scope library refused known.parsed known.library items first known.types known.heads lost known.below known.names
