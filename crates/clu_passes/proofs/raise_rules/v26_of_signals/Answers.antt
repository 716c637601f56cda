use Rattle.clu_passes.proofs.SignalTypes.{of_signals}
use Rattle.clu_passes.proofs.raise_rules.v26_of_signals.Goals as goal

pub returns : goal.returns
returns c = λ k scope library refused shaped tree are firsts stand routines lost facts bits bad items n is here all. of_signals k scope library refused shaped tree are firsts stand routines lost facts bits bad items n is here all
