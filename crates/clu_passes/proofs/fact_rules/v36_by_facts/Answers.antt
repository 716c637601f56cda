use Rattle.clu_passes.proofs.Loops.{v36_is}
use Rattle.clu_passes.proofs.fact_rules.v36_by_facts.Goals as goal

pub returns : goal.returns
returns c = λ k scope library refused shaped tree are lost facts wanted n here. v36_is k scope library refused shaped tree are lost facts wanted n here
