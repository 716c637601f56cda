use Rattle.clu_passes.proofs.ResultNumbers.{v14_is}
use Rattle.clu_passes.proofs.result_rules.v14_by_facts.Goals as goal

pub returns : goal.returns
returns c = λ k scope library refused shaped tree are modules lost facts targets items n here known brackets. v14_is k scope library refused shaped tree are modules lost facts targets items n here known brackets
