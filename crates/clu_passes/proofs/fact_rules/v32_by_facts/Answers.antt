use Rattle.clu_passes.proofs.UpDown.{v32_is}
use Rattle.clu_passes.proofs.fact_rules.v32_by_facts.Goals as goal

pub returns : goal.returns
returns c = λ k scope library refused shaped tree are lost facts own wanted n here. v32_is k scope library refused shaped tree are lost facts own wanted n here
