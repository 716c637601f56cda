use Rattle.clu_passes.proofs.Results.{results_same}
use Rattle.clu_passes.proofs.operators.results_typed.Goals as goal

pub returns : goal.returns
returns c = results_same
