use Rattle.clu_passes.proofs.BadEquates.{bad_is, bad_names_are}
use Rattle.clu_passes.proofs.asking.bad_settled.Goals as goal

pub returns-clause-equates : goal.returns-clause-equates
returns-clause-equates c = λ f of rules bad are e equate circle. bad_is f of rules bad are e equate circle

pub returns-clause-named : goal.returns-clause-named
returns-clause-named c = λ f of rules bad are n name. bad_names_are f of rules bad are n name
