use Rattle.clu_passes.proofs.ArmTypes.{v23_is}
use Rattle.clu_passes.proofs.raise_rules.v23_by_facts.Goals as goal

pub returns : goal.returns
returns c = λ k scope library refused shaped tree are lost facts inside raises parents items n here round. v23_is k scope library refused shaped tree are lost facts inside raises parents items n here round
