use Rattle.clu_passes.proofs.SignalTypes.{of_resignals}
use Rattle.clu_passes.proofs.raise_rules.v26_of_resignals.Goals as goal

pub returns : goal.returns
returns c = λ k scope library refused shaped tree are firsts stand routines lost facts raises bits bad items n is here all. of_resignals k scope library refused shaped tree are firsts stand routines lost facts raises bits bad items n is here all
