use Rattle.clu_passes.proofs.RaisedTold.{arms_same, resignals_same}
use Rattle.clu_passes.proofs.raised.raises_judged.Goals as goal

pub returns-clause-arms : goal.returns-clause-arms
returns-clause-arms c = λ f w taken xs ys same. arms_same f w taken xs ys same

pub returns-clause-resignals : goal.returns-clause-resignals
returns-clause-resignals c = λ f bad n names xs ys same. resignals_same f bad n names xs ys same
