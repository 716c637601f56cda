use Rattle.clu_passes.proofs.Surrounding.{stand}
use Rattle.clu_passes.proofs.statement_rules.stands_in_routine.Goals as goal

pub returns : goal.returns
returns c = λ f tree are. stand f.nodes f.rounds tree are
