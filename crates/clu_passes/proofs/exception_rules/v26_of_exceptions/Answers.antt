use Rattle.clu_passes.proofs.Failures.{v26_is}
use Rattle.clu_passes.proofs.exception_rules.v26_of_exceptions.Goals as goal

pub returns : goal.returns
returns c = λ k scope library refused shaped tree arena bad items n is here. v26_is k scope library refused shaped tree arena bad items n is here
