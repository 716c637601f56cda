use Rattle.clu_flat_meaning.proofs.Runs.{run_more}
use Rattle.clu_flat_meaning.proofs.laws.runs_compose.Goals as goal

pub returns : goal.returns
returns c = run_more
