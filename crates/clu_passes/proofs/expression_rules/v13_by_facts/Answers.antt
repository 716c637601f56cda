use Rattle.clu_passes.proofs.Misfits.{v13_is}
use Rattle.clu_passes.proofs.expression_rules.v13_by_facts.Goals as goal

pub returns : goal.returns
returns c = λ k scope library refused shaped tree are lost facts wanted items n here typed. v13_is k scope library refused shaped tree are lost facts wanted items n here typed
