use Rattle.clu_passes.proofs.AssignedTypes.{v15_is}
use Rattle.clu_passes.proofs.result_rules.v15_by_facts.Goals as goal

pub returns : goal.returns
returns c = λ k scope library refused shaped tree are lost facts inside targets items n here all round. v15_is k scope library refused shaped tree are lost facts inside targets items n here all round
