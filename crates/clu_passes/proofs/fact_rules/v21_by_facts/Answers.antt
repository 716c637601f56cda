use Rattle.clu_passes.proofs.Tagged.{v21_is}
use Rattle.clu_passes.proofs.fact_rules.v21_by_facts.Goals as goal

pub returns : goal.returns
returns c = λ k scope library refused shaped tree are lost facts n here. v21_is k scope library refused shaped tree are lost facts n here
