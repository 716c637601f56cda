use Rattle.clu_passes.proofs.ArmTags.{v22_is}
use Rattle.clu_passes.proofs.tag_rules.v22_by_facts.Goals as goal

pub returns : goal.returns
returns c = λ k scope library refused shaped tree are lost facts parents modules repeated items n here round. v22_is k scope library refused shaped tree are lost facts parents modules repeated items n here round
