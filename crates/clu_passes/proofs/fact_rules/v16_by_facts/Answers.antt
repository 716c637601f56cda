use Rattle.clu_passes.proofs.Conditions.{v16_is}
use Rattle.clu_passes.proofs.fact_rules.v16_by_facts.Goals as goal

pub returns : goal.returns
returns c = λ k scope library refused shaped tree are lost facts wanted t texts items n here. v16_is k scope library refused shaped t texts tree are lost facts wanted items n here
