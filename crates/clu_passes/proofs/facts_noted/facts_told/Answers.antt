use Rattle.clu_passes.proofs.NodesNoted.{facts_told}
use Rattle.clu_passes.proofs.facts_noted.facts_told.Goals as goal

pub returns : goal.returns
returns c = λ t h scope library refused items first lost known. facts_told t h scope library refused known.parsed known.library items first known.types known.heads lost known.below known.names known.wanted
