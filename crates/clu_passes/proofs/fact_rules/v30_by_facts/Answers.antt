use Rattle.clu_passes.proofs.Returned.{v30_is}
use Rattle.clu_passes.proofs.fact_rules.v30_by_facts.Goals as goal

pub returns : goal.returns
returns c = λ k scope library refused shaped tree lost facts stand routines items n here results. v30_is k scope library refused shaped tree lost facts stand routines items n here results
