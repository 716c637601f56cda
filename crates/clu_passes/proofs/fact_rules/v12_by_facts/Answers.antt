use Rattle.clu_passes.proofs.Invoked.{v12_is, types_are, results_are}
use Rattle.clu_passes.proofs.fact_rules.v12_by_facts.Goals as goal

pub returns-clause-v12 : goal.returns-clause-v12
returns-clause-v12 c = λ f k arena lost are n here. v12_is f k arena lost are n here

pub returns-clause-v13 : goal.returns-clause-v13
returns-clause-v13 c = λ f k arena lost are n here. types_are f k arena lost are n here

pub returns-clause-v14 : goal.returns-clause-v14
returns-clause-v14 c = λ f k arena lost are n here. results_are f k arena lost are n here
