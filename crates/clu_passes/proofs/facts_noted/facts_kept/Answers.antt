use Rattle.clu_passes.proofs.FactsLater.{facts_later}
use Rattle.clu_passes.proofs.facts_noted.facts_kept.Goals as goal

pub returns : goal.returns
returns c = λ t h scope library refused items first lost file terms facts arena known new grows finding follows. facts_later t h scope library refused items first lost file terms facts arena known new grows finding follows
